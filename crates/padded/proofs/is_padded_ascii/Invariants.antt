-- `is_padded_ascii` meets its contract. The loop keeps: the i bytes after the first are good; the last sixteen tell the rest.
-- Assumes nothing.
use Prim.Native.Nat.{◌-◌, ◌≤◌}
use lib.ListN.{length}
use Rattle.padded.proofs.PaddedWalk.{Walked}
use Rattle.padded.proofs.is_padded_ascii.Given as goal

abbrev pub invariant-loop-i : goal.invariant-loop-i
invariant-loop-i l = (l.i ≤ length l.s - 1) × Walked l.s 0 l.i

abbrev pub decreases-loop-i : goal.decreases-loop-i
decreases-loop-i l = length l.s - l.i
