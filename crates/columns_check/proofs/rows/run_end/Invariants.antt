-- The invariant: what is left ends where the whole does.
-- Assumes nothing.
use Prim.Native.Nat.{◌+◌, ◌-◌, ◌≤◌, max}
use mathlib.Core.Path.{◌≡◌}
use Rattle.columns_check.specs.Tree.{run}
use Rattle.columns_check.proofs.rows.run_end.Given as goal

abbrev pub invariant-loop-r : goal.invariant-loop-r
invariant-loop-r l = (l.r ≤ max l.from l.end) × (l.r + run l.kind l.table l.r (l.end - l.r) ≡ l.from + run l.kind l.table l.from (l.end - l.from))
