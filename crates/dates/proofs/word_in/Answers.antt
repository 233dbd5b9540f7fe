-- By the entry, where that is of this month; else what is known is put there. Assumes nothing.
use native.Mathlib.Omega.{arith}
use Prim.Native.Nat.{ℕ, ◌%◌, ◌*◌, ◌+◌}
use mathlib.Core.Path.{ap}
use lib.ListN.{set}
use borrow.Author.Tests.{eq-eqb, ne_eqb}
use Rattle.dates.specs.Months.{word_in, months_after}
use Rattle.dates.specs.MonthLaws.{word_below}
use Rattle.dates.proofs.word_in.Goals as goal

pub returns-then-entry-month : goal.returns-then-entry-month
unfolding word_in months_after
returns-then-entry-month c = (rw (eq-eqb _ _ c.if-entry-month.true), rw (eq-eqb _ _ c.if-entry-month.true), omega arith)

pub overflow_add-months : goal.overflow_add-months
overflow_add-months c = omega (arith, c.month_word-word.ensures, word_below c.args.month c.requires)

pub returns : goal.returns
unfolding word_in months_after
returns c = (
  rw (ne_eqb _ _ c.if-entry-month.false) c.month_word-word.ensures,
  rw (ne_eqb _ _ c.if-entry-month.false) (ap (λ (w : ℕ). set c.args.months.now (c.args.month % 64) (c.args.month * 8589934592 + w)) c.month_word-word.ensures),
  rw c.month_word-word.ensures (word_below c.args.month c.requires),
)
