-- The options, then the numbers, then the dataset.
-- Assumes nothing.
use mathlib.Core.Path.{sym, ◌∙◌}
use Rattle.block_writer.specs.Fields.{fields_fit}
use Rattle.block_writer.proofs.given.are_fit.Goals as goal

pub returns-then-not-options_fit : goal.returns-then-not-options_fit
unfolding fields_fit
returns-then-not-options_fit c = simp (sym c.options_fit.ensures ∙ c.if-not-options_fit.true)

pub returns-then-not-numbers_fit : goal.returns-then-not-numbers_fit
unfolding fields_fit
returns-then-not-numbers_fit c = simp (sym c.options_fit.ensures ∙ c.if-not-options_fit.false, sym c.numbers_fit.ensures ∙ c.if-not-numbers_fit.true)

pub returns : goal.returns
unfolding fields_fit
returns c = simp (sym c.options_fit.ensures ∙ c.if-not-options_fit.false, sym c.numbers_fit.ensures ∙ c.if-not-numbers_fit.false) c.dataset_fits.ensures
