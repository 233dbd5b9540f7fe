-- What is read of the section lies within its size, and that within what is left. Assumes nothing.
use native.Mathlib.Omega.{arith}
use mathlib.Core.Path.{sym}
use Rattle.layout.specs.LayoutOf.{D-is}
use Rattle.item_rules.proofs.Walks.{wider, section-over, section_under, section-room, section-short, section-is}
use Rattle.item_rules.proofs.walk.section_lies.Goals as goal

pub returns-then-left-size : goal.returns-then-left-size
returns-then-left-size c = section-over c.args.is_record c.args.layout.now c.args.at c.u16_of-size.ensures.0 (rw c.left.ensures at c.if-left-size.true)

pub returns-then-size-column : goal.returns-then-size-column
returns-then-size-column c = section_under c.args.is_record c.args.layout.now c.args.at c.u16_of-size.ensures.0 c.column.ensures c.if-size-column.true

pub overflow_add-at : goal.overflow_add-at
overflow_add-at c = omega (arith, section-room c.args.is_record c.args.layout.now c.args.at c.u16_of-size.ensures.0 (rw c.left.ensures at c.if-left-size.false) c.column.ensures c.if-size-column.false c.column-name.ensures)

pub bounds-layout-at : goal.bounds-layout-at
bounds-layout-at c = omega (arith, section-room c.args.is_record c.args.layout.now c.args.at c.u16_of-size.ensures.0 (rw c.left.ensures at c.if-left-size.false) c.column.ensures c.if-size-column.false c.column-name.ensures)

pub overflow_add-end : goal.overflow_add-end
overflow_add-end c = omega (arith, c.wide.ensures.1, c.if-size-column.false, c.column.ensures, c.column-name.ensures, c.u16_of-size.ensures.1, wider c.args.is_record)

pub overflow_add-end-2 : goal.overflow_add-end-2
overflow_add-end-2 c = omega (arith, c.wide.ensures.1, c.if-size-column.false, c.column.ensures, c.column-name.ensures, c.u16_of-size.ensures.1, wider c.args.is_record)

pub returns-then-size-end : goal.returns-then-size-end
returns-then-size-end c = section-short c.args.is_record c.args.layout.now c.args.at c.u16_of-size.ensures.0 (rw c.left.ensures at c.if-left-size.false) c.column.ensures c.if-size-column.false c.column-name.ensures c.wide.ensures.0 c.if-size-end.true

pub overflow_add-at-2 : goal.overflow_add-at-2
overflow_add-at-2 c = let h = rw c.left.ensures at c.if-left-size.false in omega (arith, c.if-size-end.false)

pub overflow_sub-at : goal.overflow_sub-at
overflow_sub-at c = omega arith

pub half-requires : goal.half-requires
half-requires c = let h = rw c.left.ensures at c.if-left-size.false in omega (arith, c.if-size-end.false)

pub overflow_mul-result : goal.overflow_mul-result
overflow_mul-result c = omega (arith, c.half.ensures.1)

pub overflow_add-result : goal.overflow_add-result
overflow_add-result c = omega (arith, c.half.ensures.1, c.if-size-end.false, c.u16_of-size.ensures.1)

pub returns : goal.returns
returns c = section-is c.args.is_record c.args.layout.now c.args.at c.u16_of-size.ensures.0 (rw c.left.ensures at c.if-left-size.false) c.column.ensures c.if-size-column.false c.column-name.ensures c.wide.ensures.0 c.half.ensures.0 (sym D-is)
