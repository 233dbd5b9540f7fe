-- The four that may be absent, one after the other.
-- Assumes nothing.
use mathlib.Core.Path.{sym, ◌∙◌}
use borrow.Author.Tests.{lt-leb}
use Rattle.block_writer.specs.Fields.{options_fit}
use Rattle.block_writer.proofs.FieldLaws.{options_schema, options_end, options_limit, options_last}
use Rattle.block_writer.proofs.given.options_fit.Goals as goal

pub returns-then-fields-gt15 : goal.returns-then-fields-gt15
unfolding options_fit
returns-then-fields-gt15 c = simp (lt-leb _ _ c.if-fields-gt15.true)

pub returns-then-not-option_fits : goal.returns-then-not-option_fits
returns-then-not-option_fits c =
    sym (options_schema c.args.fields.now c.if-fields-gt15.false
    (sym c.option_fits.ensures ∙ c.if-not-option_fits.true))

pub returns-then-not-option_fits-2 : goal.returns-then-not-option_fits-2
returns-then-not-option_fits-2 c =
    sym (options_end c.args.fields.now c.if-fields-gt15.false
    (sym c.option_fits.ensures ∙ c.if-not-option_fits.false)
    (sym (rw c.is_end.ensures at c.option_fits-2.ensures) ∙ c.if-not-option_fits-2.true))

pub returns-then-not-option_fits-3 : goal.returns-then-not-option_fits-3
returns-then-not-option_fits-3 c =
    sym (options_limit c.args.fields.now c.if-fields-gt15.false
    (sym c.option_fits.ensures ∙ c.if-not-option_fits.false)
    (sym (rw c.is_end.ensures at c.option_fits-2.ensures) ∙ c.if-not-option_fits-2.false)
    (sym c.option_fits-3.ensures ∙ c.if-not-option_fits-3.true))

pub returns : goal.returns
returns c =
    c.option_fits-4.ensures
    ∙ sym (options_last c.args.fields.now c.if-fields-gt15.false
    (sym c.option_fits.ensures ∙ c.if-not-option_fits.false)
    (sym (rw c.is_end.ensures at c.option_fits-2.ensures) ∙ c.if-not-option_fits-2.false)
    (sym c.option_fits-3.ensures ∙ c.if-not-option_fits-3.false))
