-- The days before the month and its own, in one number.
-- Assumes nothing.
use native.Mathlib.Omega.{arith}
use Prim.Native.Nat.{◌/◌, ◌%◌}
use Rattle.dates.specs.Day.{days_to}
use Rattle.dates.specs.Months.{month_word}
use Rattle.dates.specs.MonthLaws.{days_most}
use Rattle.dates.specs.DayLaws.{year-most, month-below}
use Rattle.dates.proofs.month_word.Goals as goal

pub overflow_add-first : goal.overflow_add-first
overflow_add-first c =
    let y = c.args.month / 100 in
    omega (arith, c.days_before_year.ensures, c.days_before_month.ensures, year-most y, month-below y (c.args.month % 100))

pub overflow_mul-result : goal.overflow_mul-result
overflow_mul-result c = omega (arith, c.days_of.ensures, days_most (c.args.month / 100) (c.args.month % 100))

pub overflow_add-result : goal.overflow_add-result
overflow_add-result c =
    omega (arith, c.days_before_year.ensures, c.days_before_month.ensures, c.days_of.ensures, days_most (c.args.month / 100) (c.args.month % 100))

pub returns : goal.returns
unfolding month_word days_to
returns c = omega (arith, c.days_before_year.ensures, c.days_before_month.ensures, c.days_of.ensures)
