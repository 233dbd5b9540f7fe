-- A struct has rtype 0. Assumes nothing.
use native.Mathlib.Omega.{arith}
use Rattle.item_rules.proofs.Walks.{row_bounds}
use Rattle.item_rules.proofs.walk.rtype_in.Goals as goal

pub cell-requires : goal.cell-requires
cell-requires c = omega (arith, row_bounds c.requires)

pub overflow_cast-result : goal.overflow_cast-result
overflow_cast-result c = let small = rw c.if-is_record.true at c.requires.rtype in omega (arith, c.cell.ensures.0)

pub returns-then-is_record : goal.returns-then-is_record
returns-then-is_record c = rw c.if-is_record.true c.cell.ensures.0

pub returns : goal.returns
returns c = rw c.if-is_record.false
