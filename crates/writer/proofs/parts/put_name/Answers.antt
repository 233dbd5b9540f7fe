-- The length, the part of the text, a NUL.
-- Assumes nothing.
use Prim.Native.Nat.{ℕ, ◌+◌, ◌-◌, ◌≤◌}
use mathlib.Core.Path.{◌≡◌, refl}
use mathlib.Core.List.{List, ◌++◌}
use lib.ListN.{length, take, drop, replicate}
use Rattle.codec.specs.Codec.{little}
use Rattle.rows_check.specs.Tree.{cell}
use Rattle.rows_check.specs.Sections.{printed_name}
use Rattle.rows_check.specs.SectionLaws.{name-is, part_end}
use Rattle.put.specs.OutputLaws.{left-start, left_stored, left-last}
use Rattle.writer.proofs.parts.put_name.Goals as goal

name-parts : (rows text : List ℕ) (q : ℕ) {s l : ℕ} → s ≡ cell rows q 1 → l ≡ cell rows q 2 → cell rows q 1 + cell rows q 2 ≤ length text
    → printed_name rows text q ≡ little 1 l ++ (take (s + l - s) (drop s text) ++ replicate 1 0)
name-parts rows text q {s} {l} es el h = rw (part_end text s l, es, el) (name-is rows text q h)

pub returns : goal.returns
returns c =
    let args = c.args in
    let e = name-parts args.rows.now args.text.now args.q c.cell_of-s.ensures.0 c.cell_of-l.ensures.0 c.requires.text_in_bounds in
    left-last (left_stored (left_stored (left-start c.requires.room_for) _ e c.put_little-a.ensures) _ refl c.put_bytes-b.ensures) c.put_zeros.ensures
