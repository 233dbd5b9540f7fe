-- The tests, one after the other; where the lists end is known from three runs.
-- Assumes nothing.
use mathlib.Core.Path.{sym, ◌∙◌}
use native.Mathlib.Omega.{arith}
use Rattle.columns_check.proofs.AnswerLaws.{too_many, too_large, unfit, formed, ends, malformed, wide, rows}
use Rattle.columns_check.proofs.check_columns.Goals as goal

pub returns-then-table-count : goal.returns-then-table-count
returns-then-table-count c = let args = c.args in malformed args.width args.table.now args.count args.text.now (too_many args.table.now args.count args.text.now c.if-table-count.true)

pub returns-then-count-gt4294967295 : goal.returns-then-count-gt4294967295
returns-then-count-gt4294967295 c =
    let args = c.args in
    malformed args.width args.table.now args.count args.text.now (too_large args.table.now args.count args.text.now c.if-table-count.false c.if-count-gt4294967295.true)

pub returns-then-not-all_fit : goal.returns-then-not-all_fit
returns-then-not-all_fit c =
    let args = c.args in
    malformed args.width args.table.now args.count args.text.now
    (unfit args.table.now args.count args.text.now c.if-table-count.false c.if-count-gt4294967295.false (sym c.all_fit.ensures ∙ c.if-not-all_fit.true))

pub returns-then-not-are_mapped : goal.returns-then-not-are_mapped
returns-then-not-are_mapped c =
    let args = c.args in
    let at = ends args.table.now args.count _ _ _ c.run_end-one.ensures c.run_end-two.ensures c.run_end-lists.ensures in
    malformed args.width args.table.now args.count args.text.now
    (formed args.table.now args.count args.text.now c.if-table-count.false c.if-count-gt4294967295.false (sym c.all_fit.ensures ∙ c.if-not-all_fit.false) at
    ∙ sym c.are_mapped.ensures ∙ c.if-not-are_mapped.true)

pub returns-then-not-are_narrow : goal.returns-then-not-are_narrow
returns-then-not-are_narrow c =
    let args = c.args in
    let at = ends args.table.now args.count _ _ _ c.run_end-one.ensures c.run_end-two.ensures c.run_end-lists.ensures in
    wide args.width args.table.now args.count args.text.now
    (formed args.table.now args.count args.text.now c.if-table-count.false c.if-count-gt4294967295.false (sym c.all_fit.ensures ∙ c.if-not-all_fit.false) at
    ∙ sym c.are_mapped.ensures ∙ c.if-not-are_mapped.false)
    (sym c.are_narrow.ensures ∙ c.if-not-are_narrow.true)

pub overflow_sub-result : goal.overflow_sub-result
overflow_sub-result c = omega (arith, c.run_end-two.ensures)

pub overflow_sub-result-2 : goal.overflow_sub-result-2
overflow_sub-result-2 c = omega (arith, c.run_end-lists.ensures)

pub first_fault-requires : goal.first_fault-requires
first_fault-requires c = sym c.all_fit.ensures ∙ c.if-not-all_fit.false

pub returns : goal.returns
returns c =
    let args = c.args in
    let at = ends args.table.now args.count _ _ _ c.run_end-one.ensures c.run_end-two.ensures c.run_end-lists.ensures in
    rows args.width args.table.now args.count args.text.now
    (formed args.table.now args.count args.text.now c.if-table-count.false c.if-count-gt4294967295.false (sym c.all_fit.ensures ∙ c.if-not-all_fit.false) at
    ∙ sym c.are_mapped.ensures ∙ c.if-not-are_mapped.false)
    (sym c.are_narrow.ensures ∙ c.if-not-are_narrow.false)
    at c.heads.ensures c.first_fault.ensures
