-- What is left to test gives the same answer.
-- Assumes nothing.
use Rattle.std.proofs.Common.{◌≡◌, ◌+◌, ◌-◌, sym, ◌∙◌, arith}
use Rattle.rows_check.specs.CheckLaws.{upto-end, upto_yes, upto-no}
use Rattle.rows_check.proofs.fits.rows_pass.Goals as goal

pub loop-p-init : goal.loop-p-init
loop-p-init c = let z : c.args.q + c.args.n - c.args.q ≡ c.args.n = omega arith in rw z

pub returns-then-not-row_test : goal.returns-then-not-row_test
returns-then-not-row_test c = sym (upto-no _ _ _ c.loop-p-test.true (sym c.row_test.ensures ∙ c.if-not-row_test.true)) ∙ c.loop-p.invariant

pub loop-p-preserved : goal.loop-p-preserved
loop-p-preserved c = sym (upto_yes _ _ _ c.loop-p-test.true (sym c.row_test.ensures ∙ c.if-not-row_test.false)) ∙ c.loop-p.invariant

pub returns : goal.returns
returns c = sym (upto-end _ _ _ c.loop-p-test.false) ∙ c.loop-p.invariant
