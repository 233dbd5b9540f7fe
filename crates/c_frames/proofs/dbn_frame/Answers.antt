-- What the frame promises, and what its answer gives.
-- Assumes nothing.
use Rattle.c_frames.specs.Laws.{framed_c}
use borrow.Author.Rules.{rules}
use Rattle.c_frames.proofs.dbn_frame.Goals as goal

pub returns : goal.returns
returns c =
    framed_c c.args.held c.args.store.now c.args.piece.now c.args.out.now c.frame-framed.result _ _ _ c.frame-framed.ensures c.put_answer.ensures.0 c.put_answer.ensures.1
