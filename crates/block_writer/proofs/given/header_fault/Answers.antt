-- The dataset, then the codes.
-- Assumes nothing.
use mathlib.Core.Path.{sym, ◌∙◌}
use borrow.Author.Tests.{le-leb, lt-leb}
use Rattle.padded.specs.PaddedAnswerLaws.{told-fine, told-not-utf8, told-after_nul}
use Rattle.block_writer.specs.PutLaws.{dataset-found}
use Rattle.block_writer.proofs.FieldLaws.{header-fault-is}
use Rattle.codec.specs.Telling.{passed}
use Rattle.block_writer.proofs.given.header_fault.Goals as goal

pub dataset-requires : goal.dataset-requires
dataset-requires c = dataset-found c.args.version c.args.fields.now c.args.text.now c.requires

pub returns-in-Err-NotUtf8 : goal.returns-in-Err-NotUtf8
unfolding passed
returns-in-Err-NotUtf8 c =
    let u = told-not-utf8 _ (sym (rw c.in-Err-NotUtf8.field-0-is at c.in-Err-NotUtf8.is) ∙ c.check_padded.ensures) in
    rw (c.refused.ensures, header-fault-is c.args.version c.args.fields.now c.args.text.now c.requires, ← c.dataset.ensures, u)

pub returns-in-Err-AfterNul : goal.returns-in-Err-AfterNul
unfolding passed
returns-in-Err-AfterNul c =
    let (u, p) = told-after_nul _ (sym (rw c.in-Err-AfterNul.field-0-is at c.in-Err-AfterNul.is) ∙ c.check_padded.ensures) in
    rw (c.refused-in-Err-AfterNul.ensures, header-fault-is c.args.version c.args.fields.now c.args.text.now c.requires, ← c.dataset.ensures, u, p)

pub returns-then-fields-gt19 : goal.returns-then-fields-gt19
unfolding passed
returns-then-fields-gt19 c =
    let (u, p) = told-fine _ (sym c.in-Ok.is ∙ c.check_padded.ensures) in
    rw (c.refused-then-fields-gt19.ensures, header-fault-is c.args.version c.args.fields.now c.args.text.now c.requires, ← c.dataset.ensures, u, p)
    (simp (lt-leb _ _ c.if-fields-gt19.true))

pub returns-then-fields-gt12 : goal.returns-then-fields-gt12
unfolding passed
returns-then-fields-gt12 c =
    let (u, p) = told-fine _ (sym c.in-Ok.is ∙ c.check_padded.ensures) in
    rw (c.refused-then-fields-gt12.ensures, header-fault-is c.args.version c.args.fields.now c.args.text.now c.requires, ← c.dataset.ensures, u, p)
    (simp (le-leb _ _ c.if-fields-gt19.false, lt-leb _ _ c.if-fields-gt12.true))

pub returns-then-fields-gt12-2 : goal.returns-then-fields-gt12-2
unfolding passed
returns-then-fields-gt12-2 c =
    let (u, p) = told-fine _ (sym c.in-Ok.is ∙ c.check_padded.ensures) in
    rw (c.refused-then-fields-gt12-2.ensures, header-fault-is c.args.version c.args.fields.now c.args.text.now c.requires, ← c.dataset.ensures, u, p)
    (simp (le-leb _ _ c.if-fields-gt19.false, le-leb _ _ c.if-fields-gt12.false, lt-leb _ _ c.if-fields-gt12-2.true))

pub returns : goal.returns
unfolding passed
returns c =
    let (u, p) = told-fine _ (sym c.in-Ok.is ∙ c.check_padded.ensures) in
    rw (header-fault-is c.args.version c.args.fields.now c.args.text.now c.requires, ← c.dataset.ensures, u, p)
    (simp (le-leb _ _ c.if-fields-gt19.false, le-leb _ _ c.if-fields-gt12.false, le-leb _ _ c.if-fields-gt12-2.false))
