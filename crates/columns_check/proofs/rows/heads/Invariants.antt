-- The invariant: what is counted, and what is left to count, give the same.
-- Assumes nothing.
use Prim.Native.Nat.{◌+◌, ◌-◌, ◌≤◌}
use mathlib.Core.Path.{◌≡◌}
use Rattle.columns_check.specs.RowFaults.{heads}
use Rattle.columns_check.proofs.rows.heads.Given as goal

abbrev pub invariant-loop-r : goal.invariant-loop-r
invariant-loop-r l = (l.m ≤ l.r) × (l.m + heads l.table l.r (l.end - l.r) ≡ heads l.table l.from (l.end - l.from))
