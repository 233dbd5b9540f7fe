-- The days of the calendar have a date.
-- Assumes nothing.
use mathlib.Core.Path.{sym, ◌∙◌}
use Rattle.dates.specs.DayLaws.{date-on}
use borrow.Author.Rules.{rules}
use Rattle.row_bytes.proofs.date.Goals as goal

pub returns-in-Some : goal.returns-in-Some
returns-in-Some c = let e = sym c.in-Some.is ∙ c.date_of_day.ensures ∙ date-on c.args.day c.requires in cc

pub returns-in-None : goal.returns-in-None
returns-in-None c = let e = sym c.in-None.is ∙ c.date_of_day.ensures ∙ date-on c.args.day c.requires in cc
