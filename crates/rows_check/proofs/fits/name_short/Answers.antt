-- A field has no name of its own.
-- Assumes nothing.
use borrow.Author.Tests.{eq-eqb, ne_eqb}
use Rattle.rows_check.specs.Check.{name_short}
use Rattle.rows_check.proofs.fits.name_short.Goals as goal

pub returns-then-kind-eq-FIELD : goal.returns-then-kind-eq-FIELD
unfolding name_short
returns-then-kind-eq-FIELD c = rw (← c.cell_of-kind.ensures.0) (simp (eq-eqb _ _ c.if-kind-eq-FIELD.true))

pub returns : goal.returns
unfolding name_short
returns c = rw (← c.cell_of-kind.ensures.0, c.cell_of.ensures.0) (simp (ne_eqb _ _ c.if-kind-eq-FIELD.false))
