-- A plain text; else no NUL, then UTF-8.
-- Assumes nothing.
use mathlib.Core.Path.{sym, ◌∙◌}
use Rattle.rows_check.specs.Check.{both, clean}
use Rattle.rows_check.proofs.WalkLaws.{clean-plain}
use Rattle.rows_check.proofs.fits.is_clean.Goals as goal

pub returns-then-is_plain : goal.returns-then-is_plain
returns-then-is_plain c = clean-plain _ (sym c.if-is_plain.true ∙ c.is_plain.ensures)

pub returns-then-has_nul : goal.returns-then-has_nul
unfolding clean both
returns-then-has_nul c = simp (sym c.has_nul.ensures ∙ c.if-has_nul.true)

pub returns : goal.returns
unfolding clean both
returns c = c.is_utf8.ensures ∙ simp (sym c.has_nul.ensures ∙ c.if-has_nul.false)
