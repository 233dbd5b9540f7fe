-- The loop pastes the piece, one byte at a time. Assumes nothing.
use Rattle.std.specs.Prelude.{◌≡◌, ◌+◌, get_or, set}
use Rattle.std.proofs.Common.{arith, add-one, refl, ap, ◌∙◌, length-set}
use Rattle.std.proofs.Math.Seq.{paste, paste-zero, paste-suc}
use Rattle.held.proofs.copy.Goals as goal

pub loop-j-init : goal.loop-j-init
loop-j-init c = (omega arith, (refl, paste-zero c.args.store.now c.args.at c.args.piece.now))

pub loop-j-preserved : goal.loop-j-preserved
loop-j-preserved c =
    let a = c.args in
    let l = c.loop-j in
    let next = paste-suc a.store.now a.at a.piece.now l.j 0 (omega arith) (omega arith) in
    (omega arith, (simp length-set (omega arith), rw add-one (ap (λ s. set s (a.at + l.j) (get_or a.piece.now l.j 0)) l.invariant.1.1 ∙ next)))

pub returns : goal.returns
returns c =
    let e : c.loop-j.j ≡ c.args.n = omega arith in
    c.loop-j.invariant.1.1 ∙ ap (paste c.args.store.now c.args.at c.args.piece.now) e
