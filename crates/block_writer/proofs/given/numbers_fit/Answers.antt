-- The tests, one after the other.
-- Assumes nothing.
use mathlib.Core.Path.{sym, ◌∙◌}
use borrow.Author.Tests.{le-leb, lt-leb}
use Rattle.block_writer.specs.Fields.{numbers_fit}
use Rattle.block_writer.proofs.FieldLaws.{numbers-wide, numbers-layout, numbers-below}
use Rattle.block_writer.proofs.given.numbers_fit.Goals as goal

pub returns-then-fields-gt255 : goal.returns-then-fields-gt255
unfolding numbers_fit
returns-then-fields-gt255 c = simp (lt-leb _ _ c.if-fields-gt255.true)

pub returns-then-fields-gt1 : goal.returns-then-fields-gt1
unfolding numbers_fit
returns-then-fields-gt1 c = simp (le-leb _ _ c.if-fields-gt255.false, lt-leb _ _ c.if-fields-gt1.true)

pub returns-then-not-width_fits : goal.returns-then-not-width_fits
returns-then-not-width_fits c =
    sym (numbers-wide c.args.version c.args.fields.now c.if-fields-gt255.false c.if-fields-gt1.false
    (sym c.width_fits.ensures ∙ c.if-not-width_fits.true))

pub returns-then-version-eq4 : goal.returns-then-version-eq4
returns-then-version-eq4 c =
    numbers-layout c.args.version c.args.fields.now c.if-fields-gt255.false c.if-fields-gt1.false
    (sym c.width_fits.ensures ∙ c.if-not-width_fits.false) c.if-version-eq4.true

pub returns : goal.returns
returns c =
    numbers-below c.args.version c.args.fields.now c.if-fields-gt255.false c.if-fields-gt1.false
    (sym c.width_fits.ensures ∙ c.if-not-width_fits.false) c.if-version-eq4.false
