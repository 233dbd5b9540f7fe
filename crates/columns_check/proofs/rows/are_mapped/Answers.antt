-- The invariant: what is left to walk over gives the same answer.
-- Assumes nothing.
use mathlib.Core.Path.{refl, sym, ◌∙◌}
use Rattle.columns_check.proofs.WalkLaws.{mapped-head, mapped_headless, mapped-part, mapped-other, mapped_alien, mapped-none}
use Rattle.columns_check.proofs.rows.are_mapped.Goals as goal

pub loop-r-init : goal.loop-r-init
loop-r-init c = refl

pub returns-then-kind-ne3 : goal.returns-then-kind-ne3
returns-then-kind-ne3 c =
    let args = c.args in
    let loop = c.loop-r in
    sym (mapped_headless args.table.now loop.r args.end loop.owner c.loop-r-test.true (λ e. c.if-kind-ne3.true (c.number_at-kind.ensures ∙ e))) ∙ (rw c.if-due-eq0.true at loop.invariant)

pub loop-r-preserved-then-due-eq0 : goal.loop-r-preserved-then-due-eq0
loop-r-preserved-then-due-eq0 c =
    let args = c.args in
    let loop = c.loop-r in
    rw c.number_at-due.ensures (sym (mapped-head args.table.now loop.r args.end loop.owner c.loop-r-test.true (sym c.number_at-kind.ensures ∙ c.if-kind-ne3.false)) ∙ (rw c.if-due-eq0.true at loop.invariant))

pub returns-then-kind-ne4 : goal.returns-then-kind-ne4
returns-then-kind-ne4 c =
    let args = c.args in
    let loop = c.loop-r in
    sym (mapped-other args.table.now loop.r args.end loop.owner loop.due c.loop-r-test.true c.if-due-eq0.false (λ e. c.if-kind-ne4.true (c.number_at-kind.ensures ∙ e))) ∙ loop.invariant

pub returns-then-number_at-owner : goal.returns-then-number_at-owner
returns-then-number_at-owner c =
    let args = c.args in
    let loop = c.loop-r in
    sym (mapped_alien args.table.now loop.r args.end loop.owner loop.due c.loop-r-test.true c.if-due-eq0.false (sym c.number_at-kind.ensures ∙ c.if-kind-ne4.false) (λ e. c.if-number_at-owner.true (c.number_at.ensures ∙ e))) ∙ loop.invariant

pub loop-r-preserved : goal.loop-r-preserved
loop-r-preserved c =
    let args = c.args in
    let loop = c.loop-r in
    sym (mapped-part args.table.now loop.r args.end loop.owner loop.due c.loop-r-test.true c.if-due-eq0.false (sym c.number_at-kind.ensures ∙ c.if-kind-ne4.false) (sym c.number_at.ensures ∙ c.if-number_at-owner.false)) ∙ loop.invariant

pub returns : goal.returns
returns c =
    let args = c.args in
    let loop = c.loop-r in
    sym (mapped-none args.table.now loop.r args.end loop.owner loop.due c.loop-r-test.false) ∙ loop.invariant
