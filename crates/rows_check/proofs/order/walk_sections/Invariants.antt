-- The invariant: what is left to walk over ends where the whole does.
-- Assumes nothing.
use Prim.Native.Nat.{◌-◌}
use Rattle.rows_check.specs.Tree.{row_count}
use Rattle.rows_check.proofs.OrderLaws.{Going}
use Rattle.rows_check.proofs.order.walk_sections.Given as goal

abbrev pub invariant-loop-p : goal.invariant-loop-p
invariant-loop-p l = Going l.kind l.rows l.text l.q l.n l.p

abbrev pub decreases-loop-p : goal.decreases-loop-p
decreases-loop-p l = row_count l.rows - l.p
