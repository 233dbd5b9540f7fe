-- Padding has no id to mark. Assumes nothing.
use Rattle.item_rules.proofs.Loops.{note_skip, note_set}
use mathlib.Core.Path.{sym, ◌∙◌}
use Rattle.item_rules.proofs.sequence.note.Goals as goal

pub returns-then-c : goal.returns-then-c
returns-then-c c = note_skip _ _ _ (sym c.class_of-c.ensures.padding ∙ c.if-c.true)

pub returns : goal.returns
returns c = note_set _ _ _ (sym c.class_of-c.ensures.padding ∙ c.if-c.false) c.class_of-c.ensures.id c.mark.ensures
