-- The number of a date's day, by its month. Assumes nothing.
use native.Mathlib.Omega.{arith}
use Prim.Native.Nat.{ℕ, ◌%◌, ◌+◌, ◌-◌}
use mathlib.Core.Path.{sym, ap, ◌∙◌}
use Rattle.dates.specs.MonthLaws.{no-first, no_last, a-day}
use Rattle.std.specs.Prelude.{Some}
use Rattle.dates.proofs.day_of.Goals as goal
use Rattle.dates.proofs.day_of.Goals.{then-d-lt1-via-then-d-lt1, then-d-lt1-via-else-d-lt1+then-word-d}

pub returns-then-d-lt1 : goal.returns-then-d-lt1
returns-then-d-lt1 c =
    elim c.then-d-lt1.branch [
      | then-d-lt1-via-then-d-lt1 w ↦ sym (no-first c.args.date (omega arith) w.if-d-lt1.true)
      | then-d-lt1-via-else-d-lt1+then-word-d w ↦ sym (no_last c.args.date (omega arith) w.if-d-lt1.false (omega (arith, c.month_word-word.ensures)))
    ]

pub overflow_cast-result : goal.overflow_cast-result
overflow_cast-result c = omega arith

pub overflow_add-result : goal.overflow_add-result
overflow_add-result c = omega arith

pub returns : goal.returns
returns c =
    ap (λ (w : ℕ). Some (w % 268435456 + c.args.date % 100 - 1)) c.month_word-word.ensures
    ∙ sym (a-day c.args.date (omega arith) (omega arith) (omega (arith, c.month_word-word.ensures)))
