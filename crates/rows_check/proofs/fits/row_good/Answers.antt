-- The four tests, one after the other.
-- Assumes nothing.
use mathlib.Core.Path.{sym, ◌∙◌}
use Rattle.rows_check.specs.Check.{both}
use Rattle.rows_check.specs.Answers.{row_good}
use Rattle.rows_check.proofs.fits.row_good.Goals as goal

pub returns-then-not-row_fits : goal.returns-then-not-row_fits
unfolding row_good both
returns-then-not-row_fits c = simp (sym c.row_fits.ensures ∙ c.if-not-row_fits.true)

pub returns-then-not-count_fits : goal.returns-then-not-count_fits
unfolding row_good both
returns-then-not-count_fits c = simp (sym c.row_fits.ensures ∙ c.if-not-row_fits.false, sym c.count_fits.ensures ∙ c.if-not-count_fits.true)

pub returns-then-not-name_short : goal.returns-then-not-name_short
unfolding row_good both
returns-then-not-name_short c =
    simp (sym c.row_fits.ensures ∙ c.if-not-row_fits.false, sym c.count_fits.ensures ∙ c.if-not-count_fits.false, sym c.name_short.ensures ∙ c.if-not-name_short.true)

pub returns : goal.returns
unfolding row_good both
returns c =
    c.name_clean.ensures ∙ simp (sym c.row_fits.ensures ∙ c.if-not-row_fits.false, sym c.count_fits.ensures ∙ c.if-not-count_fits.false, sym c.name_short.ensures ∙ c.if-not-name_short.false)
