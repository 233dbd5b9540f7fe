-- The loop keeps: the bits so far, or-ed with what is left, are those of all the bytes.
-- Assumes nothing.
use mathlib.Core.Path.{◌≡◌}
use Prim.Native.Nat.{◌≤◌, ◌+◌, ◌-◌}
use lib.ListN.{take, drop}
use Rattle.text.specs.Runs.{ored}
use Rattle.text.proofs.utf8.or_all.Given as goal

abbrev pub invariant-loop-j : goal.invariant-loop-j
invariant-loop-j l =
    (l.j ≤ l.n) × (ored 0 (take l.n (drop l.a l.s)) ≡ ored l.all (take (l.n - l.j) (drop (l.a + l.j) l.s)))

abbrev pub decreases-loop-j : goal.decreases-loop-j
decreases-loop-j l = l.n - l.j
