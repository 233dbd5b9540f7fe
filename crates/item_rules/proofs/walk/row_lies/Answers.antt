-- The row is one of the table, and so are its numbers. Assumes nothing.
use native.Mathlib.Omega.{arith}
use Rattle.item_rules.proofs.Walks.{row-columns, row_out, row-rtype, row-base, row_is}
use Rattle.item_rules.proofs.walk.row_lies.Goals as goal

pub returns-then-n-q : goal.returns-then-n-q
returns-then-n-q c = row_out _ _ _ c.if-n-q.true

pub returns-then-column-gt65535 : goal.returns-then-column-gt65535
returns-then-column-gt65535 c = row-rtype _ _ _ (rw c.cell.ensures.0 at c.column.ensures) c.if-column-gt65535.true

pub cell-requires-2 : goal.cell-requires-2
cell-requires-2 c = omega (arith, row-columns c.args.is_record, c.column-2.ensures, c.if-n-q.false)

pub returns-then-cell-gt65535 : goal.returns-then-cell-gt65535
returns-then-cell-gt65535 c = row-base _ _ _ (rw c.column-2.ensures at c.cell-2.ensures.0) c.if-cell-gt65535.true

pub cell-k-requires : goal.cell-k-requires
cell-k-requires c = omega (arith, row-columns c.args.is_record, c.column-3.ensures, c.if-n-q.false)

pub overflow_add-result : goal.overflow_add-result
overflow_add-result c = omega (arith, c.if-n-q.false)

pub overflow_add-result-2 : goal.overflow_add-result-2
overflow_add-result-2 c = omega (arith, c.if-n-q.false, c.cell-k.ensures.1)

pub overflow_add-result-3 : goal.overflow_add-result-3
overflow_add-result-3 c = omega (arith, c.if-n-q.false, c.cell-k.ensures.1)

pub returns : goal.returns
returns c = row_is _ _ _ (rw c.cell.ensures.0 at c.column.ensures) c.if-column-gt65535.false (rw c.column-2.ensures at c.cell-2.ensures.0) c.if-cell-gt65535.false (rw c.column-3.ensures at c.cell-k.ensures.0)
