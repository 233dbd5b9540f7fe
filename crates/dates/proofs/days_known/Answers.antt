-- By the entry, where that is of this month; by what is put into an empty place; else by the calendar. Assumes nothing.
use Prim.Native.Nat.{ℕ, ◌/◌}
use mathlib.Core.Path.{sym, ap, ◌∙◌}
use borrow.Author.Tests.{eq-eqb, ne_eqb}
use Rattle.dates.specs.Months.{word_in, months_tested}
use Rattle.dates.specs.MonthLaws.{word_days, tested_known}
use Rattle.dates.proofs.days_known.Goals as goal

pub returns-then-known-month : goal.returns-then-known-month
unfolding word_in
returns-then-known-month c = (rw (eq-eqb _ _ c.if-known-month.true), sym (tested_known _ _ (eq-eqb _ _ c.if-known-month.true)))

pub returns-then-known-eq0 : goal.returns-then-known-eq0
unfolding months_tested
returns-then-known-eq0 c = (ap (λ (w : ℕ). w / 268435456) c.word_in.ensures.0, rw (eq-eqb _ _ c.if-known-eq0.true) c.word_in.ensures.1)

pub returns : goal.returns
unfolding word_in months_tested
returns c = (
  rw (ne_eqb _ _ c.if-known-month.false) (c.days_of.ensures ∙ sym (word_days _ c.requires)),
  rw (ne_eqb _ _ c.if-known-eq0.false),
)
