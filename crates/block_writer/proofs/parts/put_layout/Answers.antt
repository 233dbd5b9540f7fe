-- The length, then the layout in the part that is lent to its writer, or nothing.
-- Assumes nothing.
use native.Mathlib.Omega.{arith}
use Rattle.put.specs.OutputLaws.{left-start, left_stored, left-done}
use Rattle.block_writer.specs.PutLaws.{layout-bytes, layout-end, layout-wrote}
use Rattle.block_writer.proofs.parts.put_layout.Goals as goal

pub slice_bounds-write_layout-count : goal.slice_bounds-write_layout-count
slice_bounds-write_layout-count c = omega (arith, layout-end (rw c.if-has.true at c.requires.layout_ready) (rw c.if-has.true at c.requires.room_for) c.put_little-after.ensures)

pub slice_bounds-write_layout-start : goal.slice_bounds-write_layout-start
slice_bounds-write_layout-start c = omega (arith, layout-end (rw c.if-has.true at c.requires.layout_ready) (rw c.if-has.true at c.requires.room_for) c.put_little-after.ensures)

pub overflow_add-result : goal.overflow_add-result
overflow_add-result c = omega (arith, layout-end (rw c.if-has.true at c.requires.layout_ready) (rw c.if-has.true at c.requires.room_for) c.put_little-after.ensures)

pub returns-then-has : goal.returns-then-has
returns-then-has c = rw c.if-has.true (layout-wrote (rw c.if-has.true at c.requires.layout_ready) (rw c.if-has.true at c.requires.room_for) c.put_little-after.ensures c.write_layout.ensures)

pub returns : goal.returns
returns c =
    let args = c.args in
    left-done (left_stored (left-start c.requires.room_for) _ (layout-bytes args.sheet.now args.fields.now args.rows.now args.text.now args.len args.has c.requires.layout_ready) c.put_little-after.ensures) (rw c.if-has.false)
