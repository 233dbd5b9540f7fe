-- At most what is wanted, what is there and what there is room for is copied.
-- Assumes nothing.
use Rattle.std.specs.Prelude.{◌-◌, min, length}
use Rattle.std.proofs.Common.{arith, ap, ◌∙◌}
use Rattle.std.proofs.Math.Seq.{paste-zero}
use Rattle.held.specs.Held.{put_of}
use Rattle.held.proofs.pour.Goals as goal

pub returns-then-room-held : goal.returns-then-room-held
unfolding put_of
returns-then-room-held c = let a = c.args in (omega arith, paste-zero a.store.now a.held a.piece.now)

pub copy-requires : goal.copy-requires
copy-requires c = let a = c.args in (omega (arith, c.min-n.ensures, c.min.ensures), omega (arith, c.min-n.ensures, c.min.ensures))

pub returns : goal.returns
unfolding put_of
returns c =
    let a = c.args in
    let few = c.min.ensures ∙ ap (λ x. min x (length a.piece.now)) c.need.ensures in
    (c.min-n.ensures ∙ ap (λ x. min x (length a.store.now - a.held)) few, c.copy.ensures)
