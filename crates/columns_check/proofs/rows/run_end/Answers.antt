-- The invariant: what is left ends where the whole does.
-- Assumes nothing.
use mathlib.Core.Path.{◌≡◌, refl, sym, ◌∙◌}
use native.Mathlib.Omega.{arith}
use Rattle.columns_check.proofs.WalkLaws.{run_more, run-other, run_none}
use Rattle.columns_check.proofs.rows.run_end.Goals as goal

pub loop-r-init : goal.loop-r-init
loop-r-init c = (omega arith, refl)

pub returns-then-number_at-kind : goal.returns-then-number_at-kind
returns-then-number_at-kind c =
    let args = c.args in
    sym (run-other args.kind args.table.now c.loop-r.r args.end c.loop-r-test.true (λ e. c.if-number_at-kind.true (c.number_at.ensures ∙ e))) ∙ c.loop-r.invariant.1

pub loop-r-preserved : goal.loop-r-preserved
loop-r-preserved c =
    let args = c.args in
    (omega (arith, c.loop-r-test.true), sym (run_more args.kind args.table.now c.loop-r.r args.end c.loop-r-test.true (sym c.number_at.ensures ∙ c.if-number_at-kind.false)) ∙ c.loop-r.invariant.1)

pub returns : goal.returns
returns c =
    let args = c.args in
    let e : c.max.result ≡ c.loop-r.r = omega (arith, c.max.ensures, c.loop-r.invariant.0) in
    e ∙ sym (run_none args.kind args.table.now c.loop-r.r args.end c.loop-r-test.false) ∙ c.loop-r.invariant.1
