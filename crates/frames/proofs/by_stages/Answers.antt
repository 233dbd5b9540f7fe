-- Two pours and the verdict: the law `framed`.
-- Assumes nothing.
use native.Mathlib.Omega.{arith}
use Rattle.held.proofs.StageLaws.{pour_fits, two_pours}
use Rattle.frames.specs.Frames.{frame}
use Rattle.frames.proofs.HeaderLaws.{frame-law}
use Rattle.frames.proofs.FramingLaws.{framed}
use Rattle.frames.proofs.by_stages.Goals as goal

pub overflow_add-first : goal.overflow_add-first
overflow_add-first c = omega (arith, pour_fits frame frame-law c.args.held c.args.store.now c.args.piece.now c.stage_of.ensures c.pour-a.ensures.0)

pub slice_bounds-pour-count : goal.slice_bounds-pour-count
slice_bounds-pour-count c = omega (arith, pour_fits frame frame-law c.args.held c.args.store.now c.args.piece.now c.stage_of.ensures c.pour-a.ensures.0)

pub slice_bounds-pour-start : goal.slice_bounds-pour-start
slice_bounds-pour-start c = omega (arith, pour_fits frame frame-law c.args.held c.args.store.now c.args.piece.now c.stage_of.ensures c.pour-a.ensures.0)

pub overflow_add-second : goal.overflow_add-second
overflow_add-second c = let w = two_pours frame frame-law c.args.held c.args.store.now c.args.piece.now c.stage_of.ensures c.pour-a.ensures c.stage_of-2.ensures c.pour-b.ensures in omega (arith, w.fits)

pub overflow_add-result : goal.overflow_add-result
overflow_add-result c = let w = two_pours frame frame-law c.args.held c.args.store.now c.args.piece.now c.stage_of.ensures c.pour-a.ensures c.stage_of-2.ensures c.pour-b.ensures in omega (arith, w.fits)

pub returns : goal.returns
returns c =
    let a = c.args in
    framed a.held a.store.now a.piece.now c.pour-a.result c.pour-b.result _ _ _
    (two_pours frame frame-law c.args.held c.args.store.now c.args.piece.now c.stage_of.ensures c.pour-a.ensures c.stage_of-2.ensures c.pour-b.ensures) c.stage_of-3.ensures c.answer_of-answer.ensures
