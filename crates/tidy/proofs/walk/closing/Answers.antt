-- Something is left over where the contents end before. Assumes nothing.
use mathlib.Core.Path.{sym, ◌∙◌}
use Rattle.tidy.proofs.Laws.{closing_clear, closing-left}
use Rattle.tidy.proofs.walk.closing.Goals as goal

pub returns-then-end-p : goal.returns-then-end-p
returns-then-end-p c = sym (closing_clear _ _ _ c.if-end-p.true)

pub returns : goal.returns
returns c = c.refuse.ensures ∙ sym (closing-left _ _ _ c.if-end-p.false)
