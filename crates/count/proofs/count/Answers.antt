-- The total is raised first, then the counts that the outcome names.
-- Assumes nothing.
use mathlib.Core.Path.{ap, ◌∙◌}
use Rattle.count.specs.Count.{raised, counted}
use borrow.Author.Rules.{rules}
use Rattle.count.proofs.count.Goals as goal

pub returns-in-Accepted : goal.returns-in-Accepted
unfolding counted
returns-in-Accepted c = rw c.in-Accepted.is (c.raise-in-Accepted-2.ensures ∙ ap (raised _ _) (c.raise-in-Accepted.ensures ∙ ap (raised _ _) c.raise.ensures))

pub returns-in-Refused : goal.returns-in-Refused
unfolding counted
returns-in-Refused c = rw c.in-Refused.is (c.raise-in-Refused.ensures ∙ ap (raised _ _) c.raise.ensures)

pub returns-in-Cut : goal.returns-in-Cut
unfolding counted
returns-in-Cut c = rw c.in-Cut.is (c.raise-in-Cut.ensures ∙ ap (raised _ _) c.raise.ensures)
