-- The year of the day, and the day in that year.
-- Assumes nothing.
use mathlib.Core.Path.{sym}
use native.Mathlib.Omega.{arith}
use borrow.Author.Tests.{lt-ltb, le-ltb}
use Rattle.dates.specs.Day.{days_before, days_of_year, is_day_number, date_on, date_of_day}
use Rattle.dates.specs.DayLaws.{all_days}
use Rattle.dates.proofs.date_of_day.Goals as goal

pub returns-then-day-gt3652424 : goal.returns-then-day-gt3652424
unfolding date_on is_day_number
returns-then-day-gt3652424 c = rw (le-ltb c.args.day (days_before days_of_year 10000) (omega (arith, all_days)))

pub returns : goal.returns
unfolding date_on is_day_number date_of_day
returns c =
    rw (
      lt-ltb c.args.day (days_before days_of_year 10000) (omega (arith, all_days)),
      c.in_year.ensures.0,
      c.days_before_year.ensures,
      sym c.year_of-y.ensures.0,
    )
