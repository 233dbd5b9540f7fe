-- By the first test. Assumes nothing.
use mathlib.Core.Path.{sym, ◌∙◌}
use Rattle.fields.proofs.Outcomes.{def_struct, def_label}
use Rattle.fields.proofs.breaks_73.Goals as goal

pub returns-then-is_struct : goal.returns-then-is_struct
returns-then-is_struct c = def_struct _ _ _ _ _ (sym c.is_struct.ensures ∙ c.if-is_struct.true) (rw c.def_of-d.ensures.0)

pub returns-then-names_label : goal.returns-then-names_label
returns-then-names_label c = def_label _ _ _ _ _ (sym c.is_struct.ensures ∙ c.if-is_struct.false) (rw (c.def_of-d.ensures.0, sym c.names_label.ensures ∙ c.if-names_label.true))

pub returns-else-names_label : goal.returns-else-names_label
returns-else-names_label c = def_label _ _ _ _ _ (sym c.is_struct.ensures ∙ c.if-is_struct.false) (rw (sym c.names_label.ensures ∙ c.if-names_label.false) c.if-names_label.false)
