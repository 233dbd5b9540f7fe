-- A span outside the text is not looked at.
-- Assumes nothing.
use borrow.Author.Tests.{eq-eqb, ne_eqb, le-leb, lt-leb}
use Rattle.rows_check.specs.Check.{name_clean}
use Rattle.rows_check.specs.SectionLaws.{part_end}
use Rattle.rows_check.proofs.fits.name_clean.Goals as goal

pub returns-then-kind-eq-FIELD : goal.returns-then-kind-eq-FIELD
unfolding name_clean
returns-then-kind-eq-FIELD c = rw (← c.cell_of-kind.ensures.0) (simp (eq-eqb _ _ c.if-kind-eq-FIELD.true))

pub returns-then-e-text : goal.returns-then-e-text
unfolding name_clean
returns-then-e-text c = rw (← c.cell_of-kind.ensures.0, ← c.cell_of-s.ensures.0, ← c.cell_of.ensures.0, c.is_clean.ensures, part_end _ _ _) (simp (ne_eqb _ _ c.if-kind-eq-FIELD.false, le-leb _ _ c.if-e-text.true))

pub returns-else-e-text : goal.returns-else-e-text
unfolding name_clean
returns-else-e-text c = rw (← c.cell_of-kind.ensures.0, ← c.cell_of-s.ensures.0, ← c.cell_of.ensures.0) (simp (ne_eqb _ _ c.if-kind-eq-FIELD.false, lt-leb _ _ c.if-e-text.false))
