-- Case by case on the stage; a whole block is answered by what its reader promises of that part of the store.
-- Assumes nothing.
use Rattle.std.specs.Prelude.{Ok, Err}
use Rattle.std.proofs.Common.{arith, rules, sym, ap, ◌∙◌}
use Rattle.std.proofs.lemmas.Result.{err_from_is_err_and}
use Rattle.held.proofs.StageLaws.{is_whole}
use Rattle.feed.specs.Feeding.{start, block_says, answer_at, symbology_at, layout_at}
use Rattle.feed.proofs.StageLaws.{start-law, says_err, judged-whole}
use Rattle.feed.proofs.judge.Goals as goal

pub slice_bounds-block-count : goal.slice_bounds-block-count
slice_bounds-block-count c =
    let w = is_whole start start-law c.args.held c.args.store.now _ _ (sym c.stage_of.ensures ∙ c.in_ok-n.was ∙ ap Ok c.in-Whole.is) in
    omega (arith, w.many, w.sum)

pub slice_bounds-block-start : goal.slice_bounds-block-start
slice_bounds-block-start c =
    let w = is_whole start start-law c.args.held c.args.store.now _ _ (sym c.stage_of.ensures ∙ c.in_ok-n.was ∙ ap Ok c.in-Whole.is) in
    omega (arith, w.many, w.sum)

pub slice_bounds-block-end : goal.slice_bounds-block-end
slice_bounds-block-end c =
    let w = is_whole start start-law c.args.held c.args.store.now _ _ (sym c.stage_of.ensures ∙ c.in_ok-n.was ∙ ap Ok c.in-Whole.is) in
    omega (arith, w.room)

pub returns-in_err-n : goal.returns-in_err-n
unfolding block_says answer_at symbology_at layout_at
returns-in_err-n c =
    let p = err_from_is_err_and c.from_residual.result c.from_residual.ensures.1 in
    let e = sym c.stage_of.ensures ∙ c.in_err-n.was in
    rw (p.1, p.2) (record { answer = simp e; symbology = simp e; layout = simp e })

pub returns-in-Needs : goal.returns-in-Needs
unfolding block_says answer_at symbology_at layout_at
returns-in-Needs c =
    let e = sym c.stage_of.ensures ∙ c.in_ok-n.was ∙ ap Ok c.in-Needs.is in
    record { answer = simp e; symbology = simp e; layout = simp e }

pub returns-in_err-fields-in-Whole : goal.returns-in_err-fields-in-Whole
returns-in_err-fields-in-Whole c =
    let a = c.args in
    let p = err_from_is_err_and c.from_residual-in_err-fields-in-Whole.result c.from_residual-in_err-fields-in-Whole.ensures.1 in
    rw (p.1, p.2)
    (judged-whole a.held a.store.now a.sheet.now a.symbology.now a.layout.now _ _ _ _ _ _
    (sym c.stage_of.ensures ∙ c.in_ok-n.was ∙ ap Ok c.in-Whole.is) c.read_block.ensures (sym (ap block_says c.in_err-fields-in-Whole.was ∙ says_err _)))

pub returns-in_ok-fields-in-Whole : goal.returns-in_ok-fields-in-Whole
unfolding block_says
returns-in_ok-fields-in-Whole c =
    let a = c.args in
    judged-whole a.held a.store.now a.sheet.now a.symbology.now a.layout.now _ _ _ _ _ _
    (sym c.stage_of.ensures ∙ c.in_ok-n.was ∙ ap Ok c.in-Whole.is) c.read_block.ensures (sym (ap block_says c.in_ok-fields-in-Whole.was))
