-- The loop keeps: what is expected after the bytes passed decides the rest as the start decides the whole.
-- Assumes nothing.
use mathlib.Core.Path.{◌≡◌}
use mathlib.Core.List.{[]}
use mathlib.Core.Option.{some}
use Prim.Native.Nat.{◌≤◌, ◌-◌}
use lib.ListN.{length, drop}
use Rattle.text.specs.Utf8.{goes}
use Rattle.text.specs.States.{State, meaning}
use Rattle.text.proofs.utf8.walk.Given as goal

abbrev pub invariant-loop-i : goal.invariant-loop-i
invariant-loop-i l =
    (l.i ≤ length l.s) × State l.st × (goes (some []) (drop l.from l.s) ≡ goes (meaning l.st) (drop l.i l.s))

abbrev pub decreases-loop-i : goal.decreases-loop-i
decreases-loop-i l = length l.s - l.i
