-- The body, then the check words of what then stands there. Assumes nothing.
use native.Mathlib.Omega.{arith}
use mathlib.Core.Path.{refl}
use Rattle.put.specs.OutputLaws.{wrote-length, left-start, left_step, left_stored, left-last}
use Rattle.house_file.specs.PackLaws.{sealed-length}
use Rattle.house_file.proofs.Laws.{sums_are, seal_is}
use Rattle.house_file.proofs.write.put_block.Goals as goal

pub slice_bounds-sums_of-count : goal.slice_bounds-sums_of-count
slice_bounds-sums_of-count c = omega (arith, c.put_body-end.ensures.next)

pub slice_bounds-sums_of-start : goal.slice_bounds-sums_of-start
slice_bounds-sums_of-start c = omega (arith, c.put_body-end.ensures.next)

pub slice_bounds-sums_of-end : goal.slice_bounds-sums_of-end
slice_bounds-sums_of-end c = omega (arith, c.put_body-end.ensures.next, c.put_body-end.ensures.room, wrote-length c.put_body-end.ensures)

pub returns : goal.returns
returns c =
    let p = c.args.part.now in
    let w = c.put_body-end.ensures in
    left-last (left_stored (left_step (left-start (record { fits = omega (arith, sealed-length c.args.index p c.requires.0, c.requires.1) })) (seal_is c.args.index p (sums_are w c.sums_of-t.ensures)) w) _ refl c.put_little-next.ensures) c.put_little.ensures
