-- The invariant: what is left to walk over gives the same answer.
-- Assumes nothing.
use Prim.Native.Nat.{◌-◌}
use mathlib.Core.Path.{◌≡◌}
use Rattle.columns_check.specs.Check.{mapped}
use Rattle.columns_check.proofs.rows.are_mapped.Given as goal

abbrev pub invariant-loop-r : goal.invariant-loop-r
invariant-loop-r l = mapped l.table l.r (l.end - l.r) l.owner l.due ≡ mapped l.table l.from (l.end - l.from) 0 0
