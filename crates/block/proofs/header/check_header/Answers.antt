-- Each test that fails is a fault of the header, in its order; none is its acceptance. Assumes nothing.
use mathlib.Core.Path.{sym, ◌∙◌}
use borrow.Author.Tests.{not-true, not-false}
use Rattle.padded.specs.PaddedAnswerLaws.{told-fine, told-not-utf8, told-after_nul}
use Rattle.block_format.specs.Block.{is_schema}
use Rattle.block.proofs.HeaderLaws.{was, was_text, fault_0, fault_20, fault_29, fault_21, fault_22, fault_23}
use borrow.Author.Rules.{rules}
use Rattle.block.proofs.header.check_header.Goals as goal

pub returns-in-Err-NotUtf8 : goal.returns-in-Err-NotUtf8
returns-in-Err-NotUtf8 c = c.refuse.ensures ∙ fault_20 _ _ c.requires (told-not-utf8 _ (was_text c.args.v.dataset_cstr_len c.args.block.now c.check_padded.ensures (rw c.in-Err-NotUtf8.field-0-is at c.in-Err-NotUtf8.is)))

pub returns-in-Err-AfterNul : goal.returns-in-Err-AfterNul
returns-in-Err-AfterNul c = c.refuse-in-Err-AfterNul.ensures ∙ fault_29 _ _ c.requires (told-after_nul _ (was_text c.args.v.dataset_cstr_len c.args.block.now c.check_padded.ensures (rw c.in-Err-AfterNul.field-0-is at c.in-Err-AfterNul.is)))

pub returns-then-not-is_schema : goal.returns-then-not-is_schema
returns-then-not-is_schema c =
    let text = told-fine _ (was_text c.args.v.dataset_cstr_len c.args.block.now c.check_padded.ensures c.in-Ok.is) in
    let schema = was is_schema c.half.ensures.0 c.is_schema.ensures (c.if-not-is_schema.true) in
    c.refuse-then-not-is_schema.ensures ∙ fault_21 _ _ c.requires text schema

pub returns-then-not-is_stype_in : goal.returns-then-not-is_stype_in
returns-then-not-is_stype_in c =
    let text = told-fine _ (was_text c.args.v.dataset_cstr_len c.args.block.now c.check_padded.ensures c.in-Ok.is) in
    let schema = was is_schema c.half.ensures.0 c.is_schema.ensures (c.if-not-is_schema.false) in
    c.refuse-then-not-is_stype_in.ensures ∙ fault_22 _ _ c.requires text schema (sym c.is_stype_in.ensures ∙ c.if-not-is_stype_in.true)

pub returns-then-not-is_stype : goal.returns-then-not-is_stype
returns-then-not-is_stype c =
    let text = told-fine _ (was_text c.args.v.dataset_cstr_len c.args.block.now c.check_padded.ensures c.in-Ok.is) in
    let schema = was is_schema c.half.ensures.0 c.is_schema.ensures (c.if-not-is_schema.false) in
    let stype-in = sym c.is_stype_in.ensures ∙ c.if-not-is_stype_in.false in
    c.refuse-then-not-is_stype.ensures ∙ fault_23 _ _ c.requires text schema stype-in (sym c.is_stype.ensures ∙ c.if-not-is_stype.true)

pub returns : goal.returns
returns c =
    let text = told-fine _ (was_text c.args.v.dataset_cstr_len c.args.block.now c.check_padded.ensures c.in-Ok.is) in
    let schema = was is_schema c.half.ensures.0 c.is_schema.ensures (c.if-not-is_schema.false) in
    let stype-in = sym c.is_stype_in.ensures ∙ c.if-not-is_stype_in.false in
    fault_0 _ _ c.requires text schema stype-in (sym c.is_stype.ensures ∙ c.if-not-is_stype.false)
