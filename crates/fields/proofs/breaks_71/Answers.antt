-- By the first test. Assumes nothing.
use mathlib.Core.Path.{sym, ap, ◌∙◌}
use mathlib.Core.Bool.{not}
use Rattle.fields.specs.Field.{breaks71}
use Rattle.fields.proofs.breaks_71.Goals as goal

pub returns-then-not-is_padding : goal.returns-then-not-is_padding
unfolding breaks71
returns-then-not-is_padding c = rw (sym c.is_padding.ensures ∙ c.if-not-is_padding.true)

pub returns-else-not-is_padding : goal.returns-else-not-is_padding
unfolding breaks71
returns-else-not-is_padding c = rw (sym c.is_padding.ensures ∙ c.if-not-is_padding.false) (ap not c.if-not-is_padding.false)
