-- The test by its number.
-- Assumes nothing.
use mathlib.Core.Path.{◌∙◌}
use borrow.Author.Tests.{eq-eqb, ne_eqb}
use Rattle.rows_check.specs.Check.{row_test}
use Rattle.rows_check.proofs.fits.row_test.Goals as goal

pub returns-then-which-eq90 : goal.returns-then-which-eq90
unfolding row_test
returns-then-which-eq90 c = c.row_fits.ensures ∙ simp (eq-eqb _ _ c.if-which-eq90.true)

pub returns-then-which-eq91 : goal.returns-then-which-eq91
unfolding row_test
returns-then-which-eq91 c = c.count_fits.ensures ∙ simp (ne_eqb _ _ c.if-which-eq90.false, eq-eqb _ _ c.if-which-eq91.true)

pub returns-then-which-eq92 : goal.returns-then-which-eq92
unfolding row_test
returns-then-which-eq92 c = c.name_short.ensures ∙ simp (ne_eqb _ _ c.if-which-eq90.false, ne_eqb _ _ c.if-which-eq91.false, eq-eqb _ _ c.if-which-eq92.true)

pub returns-then-which-eq93 : goal.returns-then-which-eq93
unfolding row_test
returns-then-which-eq93 c = c.name_clean.ensures ∙ simp (ne_eqb _ _ c.if-which-eq90.false, ne_eqb _ _ c.if-which-eq91.false, ne_eqb _ _ c.if-which-eq92.false, eq-eqb _ _ c.if-which-eq93.true)

pub returns : goal.returns
unfolding row_test
returns c = rw c.cell_of.ensures.0 (simp (ne_eqb _ _ c.if-which-eq90.false, ne_eqb _ _ c.if-which-eq91.false, ne_eqb _ _ c.if-which-eq92.false, ne_eqb _ _ c.if-which-eq93.false))
