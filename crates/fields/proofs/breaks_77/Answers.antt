-- By the first test. Assumes nothing.
use mathlib.Core.Path.{sym, ◌∙◌}
use Rattle.fields.specs.Field.{breaks77}
use Rattle.fields.proofs.breaks_77.Goals as goal

pub returns-then-is_symbol : goal.returns-then-is_symbol
unfolding breaks77
returns-then-is_symbol c = rw (c.size_of.ensures.0, sym c.is_symbol.ensures ∙ c.if-is_symbol.true)

pub returns-else-is_symbol : goal.returns-else-is_symbol
unfolding breaks77
returns-else-is_symbol c = rw (sym c.is_symbol.ensures ∙ c.if-is_symbol.false) c.if-is_symbol.false
