-- By what the length says and whether the version has a layout. Assumes nothing.
use Rattle.std.proofs.Common.{arith, rules, sym, ◌∙◌}
use Rattle.std.proofs.lemmas.Result.{err_from_is_err_and}
use Rattle.numbers.specs.NumberLaws.{part-place}
use Rattle.layout.specs.AnswerLaws.{verdict-no}
use Rattle.rules.proofs.RefusalLaws.{ruled-within}
use Rattle.block.specs.Parts.{lays-no}
use Rattle.block.proofs.PartLaws.{within-at, layout-cut, lays_26, lays_25, lays-none, lays-bad, lays-ok}
use Rattle.block.proofs.parts.layout_part.Goals as goal

pub returns-in_err-start : goal.returns-in_err-start
returns-in_err-start c =
    let args = c.args in
    let p = err_from_is_err_and c.from_residual.result c.from_residual.ensures.1 in
    rw (p.1, p.2) (lays-no (layout-cut args.sheet.now _ args.block.now _ (sym c.span_at.ensures.0 ∙ c.in_err-start.was)))

pub overflow_add-end : goal.overflow_add-end
overflow_add-end c = omega (arith, (within-at c.span_at.ensures.1 c.in_ok-start.was))

pub slice_bounds-check_layout-start : goal.slice_bounds-check_layout-start
slice_bounds-check_layout-start c = omega (arith, (within-at c.span_at.ensures.1 c.in_ok-start.was))

pub slice_bounds-check_layout-end : goal.slice_bounds-check_layout-end
slice_bounds-check_layout-end c = omega (arith, (within-at c.span_at.ensures.1 c.in_ok-start.was))

pub slice_bounds-check_layout-count : goal.slice_bounds-check_layout-count
slice_bounds-check_layout-count c = omega (arith, (within-at c.span_at.ensures.1 c.in_ok-start.was))

pub returns-then-len-eq0 : goal.returns-then-len-eq0
returns-then-len-eq0 c =
    let span-at = c.span_at.ensures in
    lays-none c.args.sheet.now _ c.args.block.now _ (sym span-at.0 ∙ c.in_ok-start.was) (within-at span-at.1 c.in_ok-start.was) c.requires.1 c.if-not-has_layout.true c.if-len-eq0.true

pub returns-then-not-has_layout : goal.returns-then-not-has_layout
returns-then-not-has_layout c =
    let span-at = c.span_at.ensures in
    rw c.refuse.ensures (lays_25 c.args.sheet.now _ c.args.block.now _ (sym span-at.0 ∙ c.in_ok-start.was) (within-at span-at.1 c.in_ok-start.was) c.requires.1 c.if-not-has_layout.true (omega (arith, c.if-len-eq0.false)))

pub returns-then-len-eq0-2 : goal.returns-then-len-eq0-2
returns-then-len-eq0-2 c =
    let span-at = c.span_at.ensures in
    rw c.refuse-then-len-eq0-2.ensures (lays_26 c.args.sheet.now _ c.args.block.now _ (sym span-at.0 ∙ c.in_ok-start.was) (within-at span-at.1 c.in_ok-start.was) c.requires.1 c.if-not-has_layout.false c.if-len-eq0-2.true)

pub in_block-requires : goal.in_block-requires
in_block-requires c =
    let w = within-at c.span_at.ensures.1 c.in_ok-start.was in
    let e = verdict-no _ (sym c.in-Err.is ∙ c.check_layout.ensures) in
    omega (arith, part-place c.args.block.now _ _ (ruled-within _ _ _ e) (omega arith) w.1, c.requires.1)

pub returns-in-Ok : goal.returns-in-Ok
returns-in-Ok c =
    let span-at = c.span_at.ensures in
    lays-ok c.args.sheet.now _ c.args.block.now _ (sym span-at.0 ∙ c.in_ok-start.was) (within-at span-at.1 c.in_ok-start.was) c.requires.1 c.if-not-has_layout.false (omega (arith, c.if-len-eq0-2.false)) (sym c.in-Ok.is ∙ c.check_layout.ensures)

pub returns-in-Err : goal.returns-in-Err
returns-in-Err c =
    rw c.in_block.ensures (lays-bad c.args.sheet.now _ c.args.block.now _ (sym c.span_at.ensures.0 ∙ c.in_ok-start.was) (within-at c.span_at.ensures.1 c.in_ok-start.was) c.requires.1 c.if-not-has_layout.false (omega (arith, c.if-len-eq0-2.false)) (sym c.in-Err.is ∙ c.check_layout.ensures))
