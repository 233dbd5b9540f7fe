-- By the test of the count of held bytes.
-- Assumes nothing.
use borrow.Author.Tests.{eq-eqb, ne_eqb}
use borrow.Author.Rules.{rules}
use Rattle.count.proofs.count_end.Goals as goal

pub returns-then-held-ne0 : goal.returns-then-held-ne0
returns-then-held-ne0 c = rw (ne_eqb _ 0 c.if-held-ne0.true) c.count.ensures

pub returns-else-held-ne0 : goal.returns-else-held-ne0
returns-else-held-ne0 c = rw (eq-eqb _ 0 c.if-held-ne0.false)
