-- The year guessed from 146,097 days in 400 years, or the one before or after it.
-- Assumes nothing.
use Prim.Native.Nat.{ℕ, ◌≤◌, ◌<◌}
use mathlib.Core.Path.{subst}
use Rattle.dates.proofs.Days.{year-right, year-one_less, year-one-more}
use Rattle.dates.proofs.year_of.Goals as goal

pub overflow_sub-result : goal.overflow_sub-result
overflow_sub-result c = (year-one_less c.args.day c.requires (subst (λ (b : ℕ). c.args.day < b) c.days_before_year.ensures c.if-day-days_before_year.true)).0

pub returns-then-day-days_before_year : goal.returns-then-day-days_before_year
returns-then-day-days_before_year c = (year-one_less c.args.day c.requires (subst (λ (b : ℕ). c.args.day < b) c.days_before_year.ensures c.if-day-days_before_year.true)).1

pub returns-then-days_before_year-day : goal.returns-then-days_before_year-day
returns-then-days_before_year-day c = year-one-more c.args.day c.requires (subst (λ (b : ℕ). b ≤ c.args.day) c.days_before_year-2.ensures c.if-days_before_year-day.true)

pub returns : goal.returns
returns c =
    year-right c.args.day c.requires
    (subst (λ (b : ℕ). b ≤ c.args.day) c.days_before_year.ensures c.if-day-days_before_year.false)
    (subst (λ (b : ℕ). c.args.day < b) c.days_before_year-2.ensures c.if-days_before_year-day.false)
