-- The invariant: what is left gives the same number.
-- Assumes nothing.
use Prim.Native.Nat.{◌-◌}
use mathlib.Core.Path.{◌≡◌}
use Rattle.columns_check.specs.RowFaults.{rows_fault}
use Rattle.columns_check.proofs.texts.first_fault.Given as goal

abbrev pub invariant-loop-r : goal.invariant-loop-r
invariant-loop-r l = rows_fault l.width l.table l.text l.r (l.n - l.r) ≡ rows_fault l.width l.table l.text 0 l.n
