-- The invariant: what is left to test gives the same answer.
-- Assumes nothing.
use native.Mathlib.Nat.{sub-zero}
use mathlib.Core.Path.{sym, ap, ◌∙◌}
use Rattle.columns_check.specs.Check.{every, row_fits}
use Rattle.columns_check.proofs.WalkLaws.{every_yes, every-no, every-none}
use Rattle.columns_check.proofs.rows.all_fit.Goals as goal

pub loop-r-init : goal.loop-r-init
loop-r-init c = let args = c.args in ap (every (row_fits args.table.now args.text.now) 0) (sub-zero args.n)

pub returns-then-not-row_fits : goal.returns-then-not-row_fits
returns-then-not-row_fits c =
    let args = c.args in
    sym (every-no (row_fits args.table.now args.text.now) c.loop-r.r args.n c.loop-r-test.true (sym c.row_fits.ensures ∙ c.if-not-row_fits.true)) ∙ c.loop-r.invariant

pub loop-r-preserved : goal.loop-r-preserved
loop-r-preserved c =
    let args = c.args in
    sym (every_yes (row_fits args.table.now args.text.now) c.loop-r.r args.n c.loop-r-test.true (sym c.row_fits.ensures ∙ c.if-not-row_fits.false)) ∙ c.loop-r.invariant

pub returns : goal.returns
returns c =
    let args = c.args in
    sym (every-none (row_fits args.table.now args.text.now) c.loop-r.r args.n c.loop-r-test.false) ∙ c.loop-r.invariant
