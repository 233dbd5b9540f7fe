-- A whole frame in the piece is taken at once; any other state goes by stages.
-- Assumes nothing.
use Rattle.std.specs.Prelude.{length}
use Rattle.std.proofs.Common.{arith, sym, ◌∙◌}
use Rattle.frames.proofs.AtOnceLaws.{at_once, put-at-once}
use Rattle.frames.proofs.FramingLaws.{framed-at-once}
use Rattle.frames.proofs.frame.Goals as goal

pub bounds-piece-1 : goal.bounds-piece-1
bounds-piece-1 c =
    let o = at_once (length c.args.store.now) c.args.piece.now (sym c.whole_in.ensures ∙ c.in-Some.is) in
    omega (arith, o.long, o.there)

pub returns-in-Some : goal.returns-in-Some
returns-in-Some c =
    let st = c.args.store.now in
    let p = c.args.piece.now in
    let o = at_once (length st) p (sym c.whole_in.ensures ∙ c.in-Some.is) in
    framed-at-once c.args.state.held st p _ c.pour-taken.result _ (omega arith) o (c.pour-taken.ensures.0 ∙ put-at-once st p _ o) c.pour-taken.ensures.1
