-- What the prelude says, in a store that is long enough. Assumes nothing.
use Rattle.std.specs.Prelude.{Ok}
use Rattle.std.proofs.Common.{arith, rules, sym, ap, ◌∙◌}
use Rattle.std.proofs.lemmas.Result.{err_from_is_err_and}
use Rattle.house.specs.StartLaws.{said-long, stage-said, stage-rest, stage_beyond, stage-all}
use Rattle.house.proofs.stage_of.Goals as goal

pub overflow_sub-rest : goal.overflow_sub-rest
overflow_sub-rest c = omega (arith, said-long c.args.stream.now _ _ (sym c.prelude.ensures ∙ c.in_ok-n.was ∙ ap Ok c.in-Whole.is))

pub overflow_sub-result : goal.overflow_sub-result
overflow_sub-result c = omega (arith, c.if-rest-len.true)

pub returns-then-rest-len : goal.returns-then-rest-len
returns-then-rest-len c = sym (stage-rest c.args.stream.now _ _ (sym c.prelude.ensures ∙ c.in_ok-n.was ∙ ap Ok c.in-Whole.is) c.if-rest-len.true)

pub returns-then-len-rest : goal.returns-then-len-rest
returns-then-len-rest c = c.refused.ensures ∙ sym (stage_beyond c.args.stream.now _ _ (sym c.prelude.ensures ∙ c.in_ok-n.was ∙ ap Ok c.in-Whole.is) c.if-len-rest.true)

pub returns-in-Needs : goal.returns-in-Needs
returns-in-Needs c = sym (stage-said c.args.stream.now (sym c.prelude.ensures ∙ c.in_ok-n.was ∙ ap Ok c.in-Needs.is))

pub returns-in_err-n : goal.returns-in_err-n
returns-in_err-n c =
    let p = err_from_is_err_and c.from_residual.result c.from_residual.ensures.1 in
    rw (p.1, p.2) (sym (stage-said c.args.stream.now (sym c.prelude.ensures ∙ c.in_err-n.was)))

pub returns-else-len-rest : goal.returns-else-len-rest
returns-else-len-rest c = sym (stage-all c.args.stream.now _ _ (sym c.prelude.ensures ∙ c.in_ok-n.was ∙ ap Ok c.in-Whole.is) (omega (arith, c.if-len-rest.false)) (omega (arith, c.if-rest-len.false)))
