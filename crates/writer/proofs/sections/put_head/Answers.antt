-- Three numbers of two bytes, and the hash from its two halves.
-- Assumes nothing.
use mathlib.Core.Path.{refl}
use Rattle.put.specs.OutputLaws.{left-start, left_stored, left-last}
use Rattle.writer.proofs.sections.put_head.Goals as goal

pub returns : goal.returns
returns c =
    let a = left_stored (left-start c.requires.room_for) _ refl (rw c.cell_of.ensures.0 at c.put_little-a.ensures) in
    let b = left_stored a _ refl (rw c.cell_of-2.ensures.0 at c.put_little-b.ensures) in
    let d = left_stored b _ refl (rw c.cell_of-3.ensures.0 at c.put_little-d.ensures) in
    left-last d (rw (c.cell_of-4.ensures.0, c.cell_of-5.ensures.0) at c.put_little.ensures)
