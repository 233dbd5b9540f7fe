-- The month guessed from 32 days to the month, or the one after it.
-- Assumes nothing.
use Prim.Native.Nat.{ℕ, ◌≤◌, ◌<◌}
use mathlib.Core.Path.{subst}
use Rattle.dates.proofs.Days.{month-right, month-one-more}
use Rattle.dates.proofs.month_of.Goals as goal

pub returns-then-days_before_month-k : goal.returns-then-days_before_month-k
returns-then-days_before_month-k c = month-one-more c.args.y c.args.k c.requires (subst (λ (b : ℕ). b ≤ c.args.k) c.days_before_month.ensures c.if-days_before_month-k.true)

pub returns : goal.returns
returns c = month-right c.args.y c.args.k c.requires (subst (λ (b : ℕ). c.args.k < b) c.days_before_month.ensures c.if-days_before_month-k.false)
