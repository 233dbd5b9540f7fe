-- The dataset and its NULs, then the numbers one after the other, each as it is stored.
-- Assumes nothing.
use mathlib.Core.Path.{refl}
use Rattle.put.specs.OutputLaws.{wrote-length, left-start, left_stored, left-last}
use Rattle.header_bytes.specs.HeaderLaws.{header-bytes}
use borrow.Author.Rules.{rules}
use Rattle.header_bytes.proofs.store_header.Goals as goal

pub overflow_sub-v : goal.overflow_sub-v
overflow_sub-v c = rw c.lengths_of-v.ensures c.requires.dataset_len_bound

pub returns : goal.returns
returns c =
    let args = c.args in
    let s = header-bytes args.version args.fields.now args.dataset.now c.lengths_of-v.ensures c.stored.ensures c.stored-2.ensures c.stored-3.ensures in
    let z = left_stored (left-start c.requires.room_for) _ s c.put_bytes-z.ensures in
    let a = left_stored z _ refl c.put_zeros-a.ensures in
    let b = left_stored a _ refl c.put_little-b.ensures in
    let d = left_stored b _ refl c.put_little-c.ensures in
    let f = left_stored d _ refl c.put_little-d.ensures in
    let g = left_stored f _ refl c.put_little-e.ensures in
    let h = left_stored g _ refl c.put_little-f.ensures in
    let i = left_stored h _ refl c.put_little-g.ensures in
    let j = left_stored i _ refl c.put_little-h.ensures in
    let k = left_stored j _ refl c.put_little-i.ensures in
    let l = left_stored k _ refl c.put_little-j.ensures in
    left-last l c.put_zeros.ensures

pub shape_of-out : goal.shape_of-out
shape_of-out c = wrote-length (returns c)
