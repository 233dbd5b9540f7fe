-- `good_pairs` meets its contract: what was looked at, and what is left of the n, tell the same.
-- Assumes nothing.
use Prim.Native.Nat.{◌+◌, ◌-◌, ◌≤◌}
use mathlib.Core.Path.{◌≡◌}
use mathlib.Core.Bool.{◌&&◌}
use lib.ListN.{drop}
use Rattle.padded.specs.Pairs.{good_pairs}
use Rattle.padded.proofs.good_pairs.Given as goal

abbrev pub invariant-loop-j : goal.invariant-loop-j
invariant-loop-j l = (l.j ≤ l.n) × (good_pairs l.n (drop l.a l.s) ≡ (l.all && good_pairs (l.n - l.j) (drop (l.a + l.j) l.s)))

abbrev pub decreases-loop-j : goal.decreases-loop-j
decreases-loop-j l = l.n - l.j
