-- The tests, one after the other.
-- Assumes nothing.
use borrow.Author.Tests.{eq-eqb, ne_eqb, le-leb, lt-leb}
use Rattle.columns_check.specs.Check.{numbers_fit}
use Rattle.columns_check.proofs.rows.numbers_fit.Goals as goal

pub returns-then-x-gt3652424 : goal.returns-then-x-gt3652424
unfolding numbers_fit
returns-then-x-gt3652424 c = rw (← c.number_at-kind.ensures, ← c.number_at-x.ensures, ← c.number_at-y.ensures) (simp (eq-eqb _ _ c.if-kind-eq4.true, lt-leb _ _ c.if-x-gt3652424.true))

pub returns-then-kind-eq4 : goal.returns-then-kind-eq4
unfolding numbers_fit
returns-then-kind-eq4 c = rw (← c.number_at-kind.ensures, ← c.number_at-x.ensures, ← c.number_at-y.ensures) (simp (eq-eqb _ _ c.if-kind-eq4.true, le-leb _ _ c.if-x-gt3652424.false))

pub returns-then-number_at-r : goal.returns-then-number_at-r
unfolding numbers_fit
returns-then-number_at-r c = rw (← c.number_at-kind.ensures, ← c.number_at-x.ensures, ← c.number_at-y.ensures, ← c.number_at.ensures) (simp (ne_eqb _ _ c.if-kind-eq4.false, ne_eqb _ _ c.if-number_at-r.true))

pub returns-then-y-ne0 : goal.returns-then-y-ne0
unfolding numbers_fit
returns-then-y-ne0 c = rw (← c.number_at-kind.ensures, ← c.number_at-x.ensures, ← c.number_at-y.ensures, ← c.number_at.ensures) (simp (ne_eqb _ _ c.if-kind-eq4.false, eq-eqb _ _ c.if-number_at-r.false, ne_eqb _ _ c.if-y-ne0.true))

pub returns-then-kind-eq3 : goal.returns-then-kind-eq3
unfolding numbers_fit
returns-then-kind-eq3 c = rw (← c.number_at-kind.ensures, ← c.number_at-x.ensures, ← c.number_at-y.ensures, ← c.number_at.ensures) (simp (ne_eqb _ _ c.if-kind-eq4.false, eq-eqb _ _ c.if-number_at-r.false, eq-eqb _ _ c.if-y-ne0.false, eq-eqb _ _ c.if-kind-eq3.true))

pub returns : goal.returns
unfolding numbers_fit
returns c = rw (← c.number_at-kind.ensures, ← c.number_at-x.ensures, ← c.number_at-y.ensures, ← c.number_at.ensures) (simp (ne_eqb _ _ c.if-kind-eq4.false, eq-eqb _ _ c.if-number_at-r.false, eq-eqb _ _ c.if-y-ne0.false, ne_eqb _ _ c.if-kind-eq3.false))
