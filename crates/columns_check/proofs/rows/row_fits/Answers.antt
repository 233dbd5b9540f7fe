-- The numbers, then the span, then the text.
-- Assumes nothing.
use mathlib.Core.Path.{sym, ◌∙◌}
use borrow.Author.Tests.{le-leb, lt-leb}
use Rattle.columns_check.specs.Tree.{text_of}
use Rattle.columns_check.specs.Check.{row_fits}
use Rattle.columns_check.proofs.WalkLaws.{part-is}
use Rattle.columns_check.proofs.rows.row_fits.Goals as goal

pub returns-then-not-numbers_fit : goal.returns-then-not-numbers_fit
unfolding row_fits
returns-then-not-numbers_fit c = simp (sym c.numbers_fit.ensures ∙ c.if-not-numbers_fit.true)

pub returns-then-text-end : goal.returns-then-text-end
unfolding row_fits
returns-then-text-end c = rw (← c.number_at-start.ensures, ← c.number_at.ensures) (simp (sym c.numbers_fit.ensures ∙ c.if-not-numbers_fit.false, lt-leb _ _ c.if-text-end.true))

pub returns : goal.returns
unfolding row_fits text_of
returns c = rw (c.trimmed_len.ensures, part-is _ _ _, ← c.number_at-start.ensures, ← c.number_at.ensures) (simp (sym c.numbers_fit.ensures ∙ c.if-not-numbers_fit.false, le-leb _ _ c.if-text-end.false))
