-- The invariant: what is left to test gives the same answer.
-- Assumes nothing.
use Rattle.std.proofs.Common.{◌≡◌, ◌-◌}
use Rattle.rows_check.specs.Tree.{row_count}
use Rattle.rows_check.specs.Check.{every, rises_at}
use Rattle.rows_check.proofs.order.labels_rise.Given as goal

abbrev pub invariant-loop-p : goal.invariant-loop-p
invariant-loop-p l = every (rises_at l.rows) l.p (row_count l.rows - 1 - l.p) ≡ every (rises_at l.rows) 0 (row_count l.rows - 1)
