-- By the first test. Assumes nothing.
use mathlib.Core.Path.{sym, ap, ◌∙◌}
use mathlib.Core.Bool.{not}
use Rattle.fields.proofs.Outcomes.{differs-is}
use Rattle.fields.specs.Field.{breaks79}
use Rattle.fields.proofs.breaks_79.Goals as goal

pub returns-then-not-is_padding : goal.returns-then-not-is_padding
unfolding breaks79
returns-then-not-is_padding c = rw (c.past_base.ensures, c.is_extension.ensures, sym c.is_padding.ensures ∙ c.if-not-is_padding.true) (differs-is _ _)

pub returns-else-not-is_padding : goal.returns-else-not-is_padding
unfolding breaks79
returns-else-not-is_padding c = rw (sym c.is_padding.ensures ∙ c.if-not-is_padding.false) (ap not c.if-not-is_padding.false)
