-- A count, and as many sections. Assumes nothing.
use native.Mathlib.Omega.{arith}
use mathlib.Core.Path.{sym, ◌∙◌}
use Rattle.tidy.proofs.Laws.{near-more, group_is}
use Rattle.tidy.proofs.walk.group.Goals as goal

pub overflow_add-at : goal.overflow_add-at
overflow_add-at c = omega (arith, c.requires)

pub sections-requires : goal.sections-requires
sections-requires c = (omega (arith, c.requires), c.u16_of-count.ensures.1)

pub returns : goal.returns
returns c = (c.sections.ensures.0 ∙ rw c.u16_of-count.ensures.0 (sym (group_is _ _ _)), near-more c.sections.ensures.1 (omega (arith, c.u16_of-count.ensures.1)))
