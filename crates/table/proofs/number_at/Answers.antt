-- A cell of a row that the columns have is within the table. Assumes nothing.
use native.Mathlib.Omega.{arith}
use Rattle.table.proofs.ColumnLaws.{cell_in, cell-past, cell_beside, cell-fits}
use Rattle.table.proofs.number_at.Goals as goal

pub overflow_mul-result : goal.overflow_mul-result
overflow_mul-result c = omega (arith, cell-fits _ _ _ c.if-row-height.true c.if-column-lt6.true)

pub overflow_add-result : goal.overflow_add-result
overflow_add-result c = omega (arith, cell-fits _ _ _ c.if-row-height.true c.if-column-lt6.true)

pub offset_bounds-table-column : goal.offset_bounds-table-column
offset_bounds-table-column c = omega (arith, cell-fits _ _ _ c.if-row-height.true c.if-column-lt6.true)

pub bounds-table-column : goal.bounds-table-column
bounds-table-column c = omega (arith, cell-fits _ _ _ c.if-row-height.true c.if-column-lt6.true)

pub returns-then-column-lt6 : goal.returns-then-column-lt6
returns-then-column-lt6 c = cell_in _ _ _ c.if-row-height.true c.if-column-lt6.true

pub returns-else-column-lt6 : goal.returns-else-column-lt6
returns-else-column-lt6 c = cell_beside _ _ _ c.if-column-lt6.false

pub returns-else-row-height : goal.returns-else-row-height
returns-else-row-height c = cell-past _ _ _ c.if-row-height.false
