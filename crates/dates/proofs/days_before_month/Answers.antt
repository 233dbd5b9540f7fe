-- The days before a month, in a line for January and February, one for the months after them, and one past the last.
-- Assumes nothing.
use mathlib.Core.Path.{ap, ◌∙◌}
use Prim.Native.Nat.{ℕ, ◌+◌, ◌*◌, ◌-◌, ◌/◌}
use native.Mathlib.Omega.{arith}
use Rattle.dates.specs.DayLaws.{month-past, leap_most}
use Rattle.dates.proofs.Days.{early, late}
use Rattle.dates.proofs.days_before_month.Goals as goal

pub returns-then-m-lt3 : goal.returns-then-m-lt3
returns-then-m-lt3 c = early c.args.y c.args.m c.if-m-lt3.true

pub overflow_add-result : goal.overflow_add-result
overflow_add-result c = omega (arith, c.leap_day.ensures, leap_most c.args.y)

pub returns-then-m-gt12 : goal.returns-then-m-gt12
returns-then-m-gt12 c = ap (λ (d : ℕ). 365 + d) c.leap_day.ensures ∙ month-past c.args.y c.args.m c.if-m-gt12.true

pub overflow_add-result-2 : goal.overflow_add-result-2
overflow_add-result-2 c = omega (arith, c.leap_day-2.ensures, leap_most c.args.y)

pub returns : goal.returns
returns c = ap (λ (d : ℕ). (979 * c.args.m - 1031) / 32 + d) c.leap_day-2.ensures ∙ late c.args.y c.args.m (omega arith) (omega arith)
