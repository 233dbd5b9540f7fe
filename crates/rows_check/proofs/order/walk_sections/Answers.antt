-- The invariant: what is left to walk over ends where the whole does.
-- Assumes nothing.
use native.Mathlib.Omega.{arith}
use mathlib.Core.Path.{sym, ◌∙◌}
use Rattle.rows_check.specs.CheckLaws.{next_more}
use Rattle.rows_check.proofs.OrderLaws.{going_start, going_next, going-ends, going_fails}
use borrow.Author.Rules.{rules}
use Rattle.rows_check.proofs.order.walk_sections.Goals as goal

pub loop-p-init : goal.loop-p-init
loop-p-init c = going_start _ _ _ _

pub returns-then-cell_of-kind : goal.returns-then-cell_of-kind
returns-then-cell_of-kind c = going-ends _ _ _ _ _ _ c.loop-p.invariant (λ l e. c.if-cell_of-kind.true (c.cell_of.ensures.0 ∙ e))

pub returns-then-not-section_in_place : goal.returns-then-not-section_in_place
returns-then-not-section_in_place c = going_fails _ _ _ _ _ _ c.loop-p.invariant c.loop-p-test.true (sym c.cell_of.ensures.0 ∙ c.if-cell_of-kind.false) (sym c.section_in_place.ensures ∙ c.if-not-section_in_place.true)

pub overflow_add-n : goal.overflow_add-n
overflow_add-n c = let few = c.loop-p.invariant.few in search rules

pub loop-p-smaller : goal.loop-p-smaller
loop-p-smaller c =
    let args = c.args in
    rw c.next_section-p.ensures (omega (arith, c.loop-p-test.true, next_more args.kind args.rows.now c.loop-p.p))

pub loop-p-preserved : goal.loop-p-preserved
loop-p-preserved c = rw c.next_section-p.ensures (going_next _ _ _ _ _ _ c.loop-p.invariant (sym c.section_in_place.ensures ∙ c.if-not-section_in_place.false))

pub returns : goal.returns
returns c = going-ends _ _ _ _ _ _ c.loop-p.invariant (λ l e. absurd (omega (arith, l, c.loop-p-test.false)))
