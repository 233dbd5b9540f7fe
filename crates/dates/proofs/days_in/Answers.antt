-- The days of each month are the written table, which a computed test shows month by month.
-- Assumes nothing.
use Rattle.std.proofs.Common.{ℕ, ◌≡◌, ◌+◌, ap, ◌∙◌, arith}
use Rattle.dates.specs.Date.{days_in}
use Rattle.dates.specs.DayLaws.{past, leap_most, february_days}
use Rattle.dates.proofs.Days.{other}
use Rattle.dates.proofs.days_in.Goals as goal
use Rattle.dates.proofs.days_in.Goals.{in-1-1, in_default+else-m-lt1+then-m-lt13}

pub overflow_add-result : goal.overflow_add-result
overflow_add-result c = omega (arith, c.leap_day.ensures, leap_most c.args.y)

pub returns-in-2 : goal.returns-in-2
returns-in-2 c = ap (λ (d : ℕ). 28 + d) c.leap_day.ensures ∙ rw c.in-2.is (february_days c.args.y)

pub returns-in_default : goal.returns-in_default
unfolding days_in
returns-in_default c =
    let none : c.args.m ≡ 0 = omega arith in
    rw none

pub returns-in_default-2 : goal.returns-in_default-2
returns-in_default-2 c = past _ c.args.m (omega arith)

pub returns-in-1-to-12 : goal.returns-in-1-to-12
returns-in-1-to-12 c =
    elim c.in-1-to-12-1.branch [
      | in-1-1 w ↦ other _ c.args.m (omega arith) (omega arith) (omega arith)
      | in_default+else-m-lt1+then-m-lt13 w ↦ other _ c.args.m (omega arith) (omega arith) (omega arith)
    ]
