-- The Gregorian rule, test by test.
-- Assumes nothing.
use borrow.Author.Tests.{eq-eqb, ne_eqb}
use Rattle.dates.specs.Date.{is_leap}
use Rattle.dates.proofs.leap.Goals as goal

pub returns-then-y-eq0 : goal.returns-then-y-eq0
unfolding is_leap
returns-then-y-eq0 c = simp (eq-eqb _ _ c.if-y-eq0.true)

pub returns-else-y-eq0 : goal.returns-else-y-eq0
unfolding is_leap
returns-else-y-eq0 c = simp (ne_eqb _ _ c.if-y-eq0.false)
