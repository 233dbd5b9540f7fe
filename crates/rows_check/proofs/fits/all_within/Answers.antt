-- What is left to test gives the same answer.
-- Assumes nothing.
use Rattle.std.proofs.Common.{◌≡◌, ◌-◌, sym, ◌∙◌, arith}
use Rattle.rows_check.specs.Tree.{row_count}
use Rattle.rows_check.specs.CheckLaws.{upto-end, upto_yes, upto-no}
use Rattle.rows_check.proofs.fits.all_within.Goals as goal

pub loop-p-init : goal.loop-p-init
loop-p-init c = let z : row_count c.args.rows.now - 0 ≡ row_count c.args.rows.now = omega arith in rw z

pub returns-then-not-row_good : goal.returns-then-not-row_good
returns-then-not-row_good c = sym (upto-no _ _ _ c.loop-p-test.true (sym c.row_good.ensures ∙ c.if-not-row_good.true)) ∙ c.loop-p.invariant

pub loop-p-preserved : goal.loop-p-preserved
loop-p-preserved c = sym (upto_yes _ _ _ c.loop-p-test.true (sym c.row_good.ensures ∙ c.if-not-row_good.false)) ∙ c.loop-p.invariant

pub returns : goal.returns
returns c = sym (upto-end _ _ _ c.loop-p-test.false) ∙ c.loop-p.invariant
