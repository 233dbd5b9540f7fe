-- The two cases.
-- Assumes nothing.
use borrow.Author.Tests.{eq-eqb, ne_eqb}
use borrow.Author.Rules.{rules}
use Rattle.columns_check.proofs.rows.head.Goals as goal

pub returns-then-number_at-eq3 : goal.returns-then-number_at-eq3
returns-then-number_at-eq3 c = (rw (← c.number_at.ensures) (simp (eq-eqb _ _ c.if-number_at-eq3.true)), search rules)

pub returns : goal.returns
returns c = (rw (← c.number_at.ensures) (simp (ne_eqb _ _ c.if-number_at-eq3.false)), search rules)
