-- Every number that is read of a section lies within it. Assumes nothing.
use Rattle.item_rules.proofs.Walks.{section_bounds, section-item-is}
use Rattle.layout.specs.LayoutOf.{D-is}
use native.Mathlib.Omega.{arith}
use mathlib.Core.Path.{sym}
use Rattle.item_rules.proofs.walk.section_item.Goals as goal

pub overflow_add-at : goal.overflow_add-at
overflow_add-at c = omega (arith, section_bounds c.requires)

pub rtype_at-rtype-requires : goal.rtype_at-rtype-requires
rtype_at-rtype-requires c = omega (arith, section_bounds c.requires)

pub overflow_add-at-2 : goal.overflow_add-at-2
overflow_add-at-2 c = omega (arith, section_bounds c.requires, c.column.ensures)

pub half-base-requires : goal.half-base-requires
half-base-requires c = omega (arith, section_bounds c.requires, c.column.ensures)

pub overflow_add-name : goal.overflow_add-name
overflow_add-name c = omega (arith, section_bounds c.requires, c.column-2.ensures)

pub bounds-layout-name : goal.bounds-layout-name
bounds-layout-name c = omega (arith, section_bounds c.requires, c.column-2.ensures)

pub overflow_add-p : goal.overflow_add-p
overflow_add-p c = omega (arith, section_bounds c.requires, c.column-2.ensures, c.wide.ensures.1)

pub overflow_add-p-2 : goal.overflow_add-p-2
overflow_add-p-2 c = omega (arith, section_bounds c.requires, c.column-2.ensures, c.wide.ensures.1)

pub half-count-requires : goal.half-count-requires
half-count-requires c = omega (arith, section_bounds c.requires, c.column-2.ensures, rw c.column-2.ensures at c.wide.ensures.0)

pub overflow_add-result : goal.overflow_add-result
overflow_add-result c = omega (arith, section_bounds c.requires, c.column-2.ensures, c.wide.ensures.1)

pub returns : goal.returns
returns c =
    let half = c.half-base.ensures in
    (section-item-is _ _ _ c.rtype_at-rtype.ensures (rw c.column.ensures at half.0) c.column-2.ensures c.wide.ensures.0 c.half-count.ensures.0 (sym D-is), half.1)
