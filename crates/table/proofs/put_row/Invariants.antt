-- The loop's invariant: the first j numbers of the row stand in the table. Assumes nothing.
use Rattle.table.proofs.Putting.{Putting}
use Rattle.table.proofs.put_row.Given as goal

abbrev pub invariant-loop-j : goal.invariant-loop-j
invariant-loop-j l = Putting l.w l.initial.table l.at l.row l.j l.table
