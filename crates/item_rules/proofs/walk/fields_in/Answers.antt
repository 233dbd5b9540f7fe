-- The count is one of the nine numbers of the row. Assumes nothing.
use native.Mathlib.Omega.{arith}
use Rattle.item_rules.proofs.Walks.{row-columns, row_bounds}
use Rattle.item_rules.proofs.walk.fields_in.Goals as goal

pub cell-requires : goal.cell-requires
cell-requires c = omega (arith, row-columns c.args.is_record, row_bounds c.requires, c.column.ensures)

pub returns : goal.returns
returns c = rw c.column.ensures at c.cell.ensures
