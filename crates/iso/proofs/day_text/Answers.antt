-- By the calendar's answer.
-- Assumes nothing.
use mathlib.Core.Path.{sym, ap, ◌∙◌}
use Rattle.iso.specs.DateText.{day_text}
use borrow.Author.Rules.{rules}
use Rattle.iso.proofs.day_text.Goals as goal

pub returns-in-Some : goal.returns-in-Some
returns-in-Some c = c.date_text.ensures ∙ sym (ap day_text (sym c.date_of_day.ensures ∙ c.in-Some.is))

pub returns-in-None : goal.returns-in-None
returns-in-None c = sym (ap day_text (sym c.date_of_day.ensures ∙ c.in-None.is))
