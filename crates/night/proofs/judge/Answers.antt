-- One law for each kind of answer; a number that refuses has a count.
-- Assumes nothing.
use Rattle.std.specs.Prelude.{Ok, Err}
use Rattle.std.proofs.Common.{arith, rules, ◌≡◌}
use Rattle.block_format.specs.declared.ReadError.{ReadError}
use Rattle.feed.specs.declared.Answer.TheVariants.{Needs, Done}
use Rattle.night.specs.TurnLaws.{small_is, judged_needs, judged-done, judged-refused, judged-short}
use Rattle.night.proofs.judge.Goals as goal

pub overflow_cast-e : goal.overflow_cast-e
overflow_cast-e c = let e : c.args.answer ≡ Err (ReadError.Refused c.in-Err-Refused.e) = search rules in omega (arith, small_is c.requires e)

pub returns-in-Ok-Needs : goal.returns-in-Ok-Needs
returns-in-Ok-Needs c = let e : c.args.answer ≡ Ok (Needs c.in-Ok-Needs.field-0-0) = search rules in judged_needs e

pub returns-in-Ok-Done : goal.returns-in-Ok-Done
returns-in-Ok-Done c = let e : c.args.answer ≡ Ok (Done c.in-Ok-Done.f) = search rules in judged-done e c.count.ensures

pub returns-in-Err-Refused : goal.returns-in-Err-Refused
returns-in-Err-Refused c =
    let e : c.args.answer ≡ Err (ReadError.Refused c.in-Err-Refused.e) = search rules in
    judged-refused e c.count-in-Err-Refused.ensures c.is_end.ensures

pub returns-in-Err-Short : goal.returns-in-Err-Short
returns-in-Err-Short c =
    let e : c.args.answer ≡ Err (ReadError.Short c.in-Err-Short.field-0-0 c.in-Err-Short.field-0-1) = search rules in
    judged-short e c.count-in-Err-Short.ensures
