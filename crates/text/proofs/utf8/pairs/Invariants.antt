-- `pairs` meets its contract. The loop keeps: what is left is judged as the whole is.
-- Assumes nothing.
use Prim.Native.Nat.{◌-◌, ◌≤◌}
use mathlib.Core.Path.{◌≡◌}
use mathlib.Core.List.{[]}
use mathlib.Core.Option.{some}
use lib.ListN.{length, drop}
use Rattle.text.specs.Utf8.{goes}
use Rattle.text.proofs.utf8.pairs.Given as goal

abbrev pub invariant-loop-i : goal.invariant-loop-i
invariant-loop-i l = (l.i ≤ length l.s) × (goes (some []) (drop l.from l.s) ≡ goes (some []) (drop l.i l.s))

abbrev pub decreases-loop-i : goal.decreases-loop-i
decreases-loop-i l = length l.s - l.i
