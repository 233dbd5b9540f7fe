-- The invariant: what is left to test gives the same answer.
-- Assumes nothing.
use Prim.Native.Nat.{◌-◌}
use mathlib.Core.Path.{◌≡◌}
use lib.Dec.{leb}
use Rattle.columns_check.specs.Tree.{len_of}
use Rattle.columns_check.specs.Check.{every, narrow}
use Rattle.columns_check.proofs.texts.are_narrow.Given as goal

abbrev pub invariant-loop-r : goal.invariant-loop-r
invariant-loop-r l = every (λ j. leb (len_of l.table j) l.width) l.r (l.n - l.r) ≡ narrow l.width l.table l.n
