-- What the calendar says.
-- Assumes nothing.
use mathlib.Core.Path.{ap, ◌∙◌}
use Rattle.c_texts.specs.Numbers.{calendar_number, calendar_out}
use borrow.Author.Rules.{rules}
use Rattle.c_texts.proofs.dbn_date.Goals as goal

pub returns : goal.returns
returns c = (c.put_answer.ensures.0 ∙ ap calendar_number c.day_of.ensures, c.put_answer.ensures.1 ∙ ap (λ a. calendar_out a c.args.out.now) c.day_of.ensures)
