-- `eight` meets its contract: what was looked at, and what is left of the eight, tell the same.
-- Assumes nothing.
use Prim.Native.Nat.{◌+◌, ◌-◌, ◌≤◌}
use mathlib.Core.Path.{◌≡◌}
use mathlib.Core.Bool.{◌&&◌}
use lib.ListN.{take, drop}
use Rattle.plain_text.specs.Plain.{plain}
use Rattle.plain_text.proofs.eight.Given as goal

abbrev pub invariant-loop-j : goal.invariant-loop-j
invariant-loop-j l =
    (l.j ≤ 8) × (plain (take 8 (drop l.a l.s)) ≡ (l.all && plain (take (8 - l.j) (drop (l.a + l.j) l.s))))

abbrev pub decreases-loop-j : goal.decreases-loop-j
decreases-loop-j l = 8 - l.j
