-- Every number of the row lies within the table. Assumes nothing.
use native.Mathlib.Omega.{arith}
use Rattle.item_rules.proofs.Walks.{row-columns, row_bounds, row-item-is}
use Rattle.item_rules.proofs.walk.row_item.Goals as goal

pub cell-base-requires : goal.cell-base-requires
cell-base-requires c = omega (arith, row-columns c.args.is_record, row_bounds c.requires, c.column.ensures)

pub overflow_mul-result : goal.overflow_mul-result
overflow_mul-result c = omega (arith, row_bounds c.requires)

pub overflow_add-result : goal.overflow_add-result
overflow_add-result c = omega (arith, row_bounds c.requires)

pub returns : goal.returns
returns c =
    let base = rw c.column.ensures at c.cell-base.ensures.0 in
    (row-item-is _ _ _ c.rtype_in-rtype.ensures base c.fields_in-count.ensures.0, rw (← base) at c.requires.base)
