-- The length, then each row, then the order.
-- Assumes nothing.
use Rattle.std.proofs.Common.{sym, ◌∙◌}
use borrow.Author.Tests.{eq-eqb, ne_eqb}
use Rattle.rows_check.specs.Check.{both, well_formed}
use Rattle.rows_check.proofs.OrderLaws.{counts-is}
use Rattle.rows_check.proofs.order.well_formed.Goals as goal

pub returns-then-rows-ne0 : goal.returns-then-rows-ne0
unfolding well_formed both
returns-then-rows-ne0 c = simp (ne_eqb _ _ c.if-rows-ne0.true)

pub returns-then-not-all_pass : goal.returns-then-not-all_pass
unfolding well_formed both
returns-then-not-all_pass c = simp (eq-eqb _ _ c.if-rows-ne0.false, sym c.all_pass.ensures ∙ c.if-not-all_pass.true)

pub returns : goal.returns
unfolding well_formed both
returns c = counts-is c.args.rows.now c.in_order.result (simp (eq-eqb _ _ c.if-rows-ne0.false, sym c.all_pass.ensures ∙ c.if-not-all_pass.false)) c.in_order.ensures
