-- The month of the day, and the days before it in that month.
-- Assumes nothing.
use mathlib.Core.Path.{sym}
use native.Mathlib.Omega.{arith}
use Rattle.dates.specs.Day.{in_year}
use Rattle.dates.specs.DayLaws.{month-most}
use Rattle.dates.proofs.in_year.Goals as goal

pub overflow_sub-result : goal.overflow_sub-result
overflow_sub-result c = omega (arith, c.days_before_month.ensures, c.month_of-m.ensures.1.begun)

pub overflow_add-result : goal.overflow_add-result
overflow_add-result c =
    omega (
      arith,
      c.days_before_month.ensures,
      c.month_of-m.ensures.1.within,
      c.month_of-m.ensures.1.among,
      month-most c.args.y c.month_of-m.result,
    )

pub overflow_add-result-2 : goal.overflow_add-result-2
overflow_add-result-2 c =
    omega (
      arith,
      c.days_before_month.ensures,
      c.month_of-m.ensures.1.within,
      c.month_of-m.ensures.1.among,
      month-most c.args.y c.month_of-m.result,
    )

pub returns : goal.returns
unfolding in_year
returns c = (
  rw (c.days_before_month.ensures, sym c.month_of-m.ensures.0),
  omega (
    arith,
    c.days_before_month.ensures,
    c.month_of-m.ensures.1.within,
    c.month_of-m.ensures.1.among,
    month-most c.args.y c.month_of-m.result,
  ),
)
