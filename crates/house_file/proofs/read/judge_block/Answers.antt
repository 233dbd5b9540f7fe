-- The three tests in their order. Assumes nothing.
use Rattle.std.proofs.Common.{sym, ap, ◌∙◌, arith}
use borrow.Author.Tests.{eq-eqb, ne_eqb}
use Rattle.codec.specs.Faults.{unless}
use Rattle.numbers.specs.NumberLaws.{u16-is}
use Rattle.codec.specs.Telling.{passed, all_passed, refuses_by}
use Rattle.house_file.specs.BlockLaws.{block_at}
use Rattle.house_file.specs.FaultLaws.{fault_check, fault-index, fault-filled}
use Rattle.house_file.proofs.read.judge_block.Goals as goal

pub returns-then-not-is_sound : goal.returns-then-not-is_sound
returns-then-not-is_sound c = c.refuse.ensures ∙ refuses_by 131 (λ z. omega arith) ∙ sym (ap passed (fault_check c.args.index c.args.last (block_at c.args.at c.args.file.now) (sym c.is_sound.ensures ∙ c.if-not-is_sound.true)))

pub returns-then-u16_of-index : goal.returns-then-u16_of-index
returns-then-u16_of-index c = c.refuse-then-u16_of-index.ensures ∙ refuses_by 132 (λ z. omega arith) ∙ sym (ap passed (fault-index c.args.index c.args.last (block_at c.args.at c.args.file.now) (sym c.is_sound.ensures ∙ c.if-not-is_sound.false) (ne_eqb _ _ (λ e. c.if-u16_of-index.true (c.u16_of.ensures.0 ∙ sym (u16-is c.args.file.now c.args.at) ∙ e)))))

pub returns-then-not-is_filled : goal.returns-then-not-is_filled
returns-then-not-is_filled c = c.refuse-then-not-is_filled.ensures ∙ refuses_by 133 (λ z. omega arith) ∙ sym (ap passed (fault-filled c.args.index c.args.last (block_at c.args.at c.args.file.now) (sym c.is_sound.ensures ∙ c.if-not-is_sound.false) (eq-eqb _ _ (u16-is c.args.file.now c.args.at ∙ sym c.u16_of.ensures.0 ∙ c.if-u16_of-index.false)) ∙ ap (λ t. unless t 133) (sym c.is_filled.ensures ∙ c.if-not-is_filled.true)))

pub returns : goal.returns
returns c = all_passed _ (fault-filled c.args.index c.args.last (block_at c.args.at c.args.file.now) (sym c.is_sound.ensures ∙ c.if-not-is_sound.false) (eq-eqb _ _ (u16-is c.args.file.now c.args.at ∙ sym c.u16_of.ensures.0 ∙ c.if-u16_of-index.false)) ∙ ap (λ t. unless t 133) (sym c.is_filled.ensures ∙ c.if-not-is_filled.false))
