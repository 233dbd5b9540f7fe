-- By the first test. Assumes nothing.
use mathlib.Core.Path.{sym, ◌∙◌}
use Rattle.fields.specs.Field.{breaks76}
use Rattle.fields.proofs.breaks_76.Goals as goal

pub returns-then-is_decimal : goal.returns-then-is_decimal
unfolding breaks76
returns-then-is_decimal c = rw (sym c.is_decimal.ensures ∙ c.if-is_decimal.true)

pub returns-else-is_decimal : goal.returns-else-is_decimal
unfolding breaks76
returns-else-is_decimal c = rw (sym c.is_decimal.ensures ∙ c.if-is_decimal.false) c.if-is_decimal.false
