-- Case by case on the stage; a whole block is answered by what its reader promises, with no table lent. Assumes nothing.
use Rattle.std.specs.Prelude.{Ok, Err}
use Rattle.std.proofs.Common.{arith, rules, sym, ap, ◌∙◌}
use Rattle.feed.specs.AnswerLaws.{says-read, says-refused, says-short}
use Rattle.house.specs.Start.{refusal_of}
use Rattle.house.specs.StartLaws.{stage-whole, fault_needs, fault-refused, fault-block}
use Rattle.house.proofs.fault_of.Goals as goal

pub slice_bounds-read_block-count : goal.slice_bounds-read_block-count
slice_bounds-read_block-count c = omega (arith, (stage-whole c.args.stream.now _ _ (sym c.stage_of.ensures ∙ c.in-Ok-Whole.is ∙ ap Ok c.in-Ok-Whole.field-0-is)))

pub slice_bounds-read_block-start : goal.slice_bounds-read_block-start
slice_bounds-read_block-start c = omega (arith, (stage-whole c.args.stream.now _ _ (sym c.stage_of.ensures ∙ c.in-Ok-Whole.is ∙ ap Ok c.in-Ok-Whole.field-0-is)))

pub slice_bounds-read_block-end : goal.slice_bounds-read_block-end
slice_bounds-read_block-end c = omega (arith, (stage-whole c.args.stream.now _ _ (sym c.stage_of.ensures ∙ c.in-Ok-Whole.is ∙ ap Ok c.in-Ok-Whole.field-0-is)))

pub returns-in-Ok-Needs : goal.returns-in-Ok-Needs
returns-in-Ok-Needs c = sym (fault_needs c.args.stream.now c.args.sheet.now (sym c.stage_of.ensures ∙ c.in-Ok-Needs.is ∙ ap Ok c.in-Ok-Needs.field-0-is))

pub returns-in-Err : goal.returns-in-Err
returns-in-Err c = sym (fault-refused c.args.stream.now c.args.sheet.now (sym c.stage_of.ensures ∙ c.in-Err.is))

pub returns-in-Err-Refused : goal.returns-in-Err-Refused
returns-in-Err-Refused c = sym (fault-block c.args.stream.now c.args.sheet.now (sym c.stage_of.ensures ∙ c.in-Ok-Whole.is ∙ ap Ok c.in-Ok-Whole.field-0-is) (sym c.read_block.ensures.answer ∙ c.in-Err-Refused.is ∙ ap Err c.in-Err-Refused.field-0-is) ∙ ap refusal_of (says-refused _))

pub returns-in-Ok : goal.returns-in-Ok
returns-in-Ok c = sym (fault-block c.args.stream.now c.args.sheet.now (sym c.stage_of.ensures ∙ c.in-Ok-Whole.is ∙ ap Ok c.in-Ok-Whole.field-0-is) (sym c.read_block.ensures.answer ∙ c.in-Ok.is) ∙ ap refusal_of (says-read _))

pub returns-in-Err-Short : goal.returns-in-Err-Short
returns-in-Err-Short c = sym (fault-block c.args.stream.now c.args.sheet.now (sym c.stage_of.ensures ∙ c.in-Ok-Whole.is ∙ ap Ok c.in-Ok-Whole.field-0-is) (sym c.read_block.ensures.answer ∙ c.in-Err-Short.is ∙ ap Err c.in-Err-Short.field-0-is) ∙ ap refusal_of (says-short _ _))
