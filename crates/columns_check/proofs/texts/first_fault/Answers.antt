-- The invariant: what is left gives the same number.
-- Assumes nothing.
use native.Mathlib.Nat.{sub-zero}
use native.Mathlib.Omega.{arith}
use mathlib.Core.Path.{sym, ap, ◌∙◌}
use Rattle.columns_check.specs.Check.{row_fits}
use Rattle.codec.specs.Telling.{passed}
use Rattle.columns_check.specs.RowFaults.{rows_fault}
use Rattle.columns_check.specs.RowLaws.{every-at, row-span}
use Rattle.columns_check.proofs.WalkLaws.{fault-stops, fault-goes, fault-none}
use Rattle.codec.specs.Telling.{all_passed}
use Rattle.std.proofs.lemmas.Result.{err_from_is_err_and}
use Rattle.columns_check.proofs.texts.first_fault.Goals as goal

pub loop-r-init : goal.loop-r-init
loop-r-init c = let args = c.args in ap (rows_fault args.width args.table.now args.text.now 0) (sub-zero args.n)

pub row_fault-requires : goal.row_fault-requires
row_fault-requires c =
    let r = c.loop-r.r in
    row-span c.args.table.now c.args.text.now r (every-at (row_fits c.args.table.now c.args.text.now) 0 c.args.n c.requires r (omega arith) (omega (arith, c.loop-r-test.true)))

pub returns-in_err-row_fault : goal.returns-in_err-row_fault
returns-in_err-row_fault c =
    let args = c.args in
    let p = err_from_is_err_and c.from_residual.result c.from_residual.ensures.1 in
    p.1 ∙ rw p.2 (fault-stops args.width args.table.now args.text.now c.loop-r.r args.n c.loop-r-test.true c.in_err-row_fault.ensures) ∙ ap passed c.loop-r.invariant

pub loop-r-preserved : goal.loop-r-preserved
loop-r-preserved c =
    let args = c.args in
    sym (fault-goes args.width args.table.now args.text.now c.loop-r.r args.n c.loop-r-test.true c.in_ok-row_fault.ensures) ∙ c.loop-r.invariant

pub returns : goal.returns
returns c =
    let args = c.args in
    all_passed _ (sym c.loop-r.invariant ∙ fault-none args.width args.table.now args.text.now c.loop-r.r args.n c.loop-r-test.false)
