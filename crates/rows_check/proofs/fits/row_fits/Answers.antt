-- The kind, then the numbers, then the span.
-- Assumes nothing.
use mathlib.Core.Path.{sym, ◌∙◌}
use borrow.Author.Tests.{eq-eqb, ne_eqb, le-leb, lt-leb}
use Rattle.rows_check.specs.Check.{both, row_fits}
use Rattle.rows_check.proofs.fits.row_fits.Goals as goal

pub returns-then-kind-lt-RECORD : goal.returns-then-kind-lt-RECORD
unfolding row_fits both
returns-then-kind-lt-RECORD c = rw (← c.cell_of-kind.ensures.0) (simp (lt-leb _ _ c.if-kind-lt-RECORD.true))

pub returns-then-kind-gt-LABEL : goal.returns-then-kind-gt-LABEL
unfolding row_fits both
returns-then-kind-gt-LABEL c = rw (← c.cell_of-kind.ensures.0) (simp (le-leb _ _ c.if-kind-lt-RECORD.false, lt-leb _ _ c.if-kind-gt-LABEL.true))

pub returns-then-not-numbers_fit : goal.returns-then-not-numbers_fit
unfolding row_fits both
returns-then-not-numbers_fit c = rw (← c.cell_of-kind.ensures.0) (simp (le-leb _ _ c.if-kind-lt-RECORD.false, le-leb _ _ c.if-kind-gt-LABEL.false, sym c.numbers_fit.ensures ∙ c.if-not-numbers_fit.true))

pub returns-then-kind-eq-FIELD : goal.returns-then-kind-eq-FIELD
unfolding row_fits both
returns-then-kind-eq-FIELD c = rw (← c.cell_of-kind.ensures.0) (simp (le-leb _ _ c.if-kind-lt-RECORD.false, le-leb _ _ c.if-kind-gt-LABEL.false, sym c.numbers_fit.ensures ∙ c.if-not-numbers_fit.false, eq-eqb _ _ c.if-kind-eq-FIELD.true))

pub returns : goal.returns
unfolding row_fits both
returns c = rw (← c.cell_of-kind.ensures.0) (simp (le-leb _ _ c.if-kind-lt-RECORD.false, le-leb _ _ c.if-kind-gt-LABEL.false, sym c.numbers_fit.ensures ∙ c.if-not-numbers_fit.false, ne_eqb _ _ c.if-kind-eq-FIELD.false, c.span_fits.ensures))
