-- Each kind with a count has its number.
-- Assumes nothing.
use borrow.Author.Tests.{eq-eqb, ne_eqb}
use Rattle.rows_check.specs.Check.{count_fits}
use Rattle.rows_check.proofs.fits.count_fits.Goals as goal

pub returns-then-kind-eq-RECORD : goal.returns-then-kind-eq-RECORD
unfolding count_fits
returns-then-kind-eq-RECORD c = rw (← c.cell_of-kind.ensures.0, c.cell_of.ensures.0) (simp (eq-eqb _ _ c.if-kind-eq-RECORD.true))

pub returns-then-kind-eq-STRUCT : goal.returns-then-kind-eq-STRUCT
unfolding count_fits
returns-then-kind-eq-STRUCT c = rw (← c.cell_of-kind.ensures.0, c.cell_of-then-kind-eq-STRUCT.ensures.0) (simp (ne_eqb _ _ c.if-kind-eq-RECORD.false, eq-eqb _ _ c.if-kind-eq-STRUCT.true))

pub returns-then-kind-eq-LABEL_DEF : goal.returns-then-kind-eq-LABEL_DEF
unfolding count_fits
returns-then-kind-eq-LABEL_DEF c = rw (← c.cell_of-kind.ensures.0, c.cell_of-then-kind-eq-LABEL_DEF.ensures.0) (simp (ne_eqb _ _ c.if-kind-eq-RECORD.false, ne_eqb _ _ c.if-kind-eq-STRUCT.false, eq-eqb _ _ c.if-kind-eq-LABEL_DEF.true))

pub returns : goal.returns
unfolding count_fits
returns c = rw (← c.cell_of-kind.ensures.0) (simp (ne_eqb _ _ c.if-kind-eq-RECORD.false, ne_eqb _ _ c.if-kind-eq-STRUCT.false, ne_eqb _ _ c.if-kind-eq-LABEL_DEF.false))
