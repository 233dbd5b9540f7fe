-- By the first test. Assumes nothing.
use mathlib.Core.Path.{sym, ◌∙◌}
use Rattle.fields.specs.Field.{breaks72}
use Rattle.fields.proofs.breaks_72.Goals as goal

pub returns-then-is_struct : goal.returns-then-is_struct
unfolding breaks72
returns-then-is_struct c = rw (sym c.is_struct.ensures ∙ c.if-is_struct.true)

pub returns-else-is_struct : goal.returns-else-is_struct
unfolding breaks72
returns-else-is_struct c = rw (sym c.is_struct.ensures ∙ c.if-is_struct.false) c.if-is_struct.false
