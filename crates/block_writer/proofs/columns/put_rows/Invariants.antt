-- The invariant: the rows that are left can be stored, and what is left to write is theirs.
-- Assumes nothing.
use Prim.Native.Nat.{◌+◌, ◌-◌}
use Rattle.put.specs.OutputLaws.{Left}
use Rattle.columns_check.specs.PrintLaws.{printed_rows}
use Rattle.block_writer.specs.Plan.{RowsReady}
use Rattle.block_writer.proofs.columns.put_rows.Given as goal

abbrev pub invariant-loop-r : goal.invariant-loop-r
invariant-loop-r l = RowsReady l.width l.table l.text l.r (l.from + l.n - l.r) × Left l.at (printed_rows l.width l.table l.text l.from l.n) l.initial.out l.a (printed_rows l.width l.table l.text l.r (l.from + l.n - l.r)) l.out
