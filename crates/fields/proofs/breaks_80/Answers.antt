-- By the first test. Assumes nothing.
use mathlib.Core.Path.{sym, ap, ◌∙◌}
use mathlib.Core.Bool.{not}
use Rattle.fields.specs.Field.{breaks80}
use Rattle.fields.proofs.breaks_80.Goals as goal

pub returns-then-not-past_base : goal.returns-then-not-past_base
unfolding breaks80
returns-then-not-past_base c = rw (c.end_of.ensures.0, sym c.past_base.ensures ∙ c.if-not-past_base.true)

pub returns-else-not-past_base : goal.returns-else-not-past_base
unfolding breaks80
returns-else-not-past_base c = rw (sym c.past_base.ensures ∙ c.if-not-past_base.false) (ap not c.if-not-past_base.false)
