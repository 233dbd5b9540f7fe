-- The loop pastes the piece, one byte at a time. Assumes nothing.
use Rattle.std.specs.Prelude.{◌≤◌, ◌≡◌, length}
use Rattle.std.proofs.Math.Seq.{paste}
use Rattle.held.proofs.copy.Given as goal

abbrev pub invariant-loop-j : goal.invariant-loop-j
invariant-loop-j l = (l.j ≤ l.n) × ((length l.store ≡ length l.initial.store) × (l.store ≡ paste l.initial.store l.at l.piece l.j))
