-- The invariant: what is left to test gives the same answer.
-- Assumes nothing.
use Prim.Native.Nat.{◌-◌}
use mathlib.Core.Path.{◌≡◌}
use Rattle.columns_check.specs.Check.{every, row_fits}
use Rattle.columns_check.proofs.rows.all_fit.Given as goal

abbrev pub invariant-loop-r : goal.invariant-loop-r
invariant-loop-r l = every (row_fits l.table l.text) l.r (l.n - l.r) ≡ every (row_fits l.table l.text) 0 l.n
