-- Six numbers, each a column further. Assumes nothing.
use native.Mathlib.Omega.{arith}
use lib.ListN.{length-set}
use Rattle.table.specs.ReadingLaws.{columns-put, columns-not}
use Rattle.table.proofs.put_six.Goals as goal

pub bounds-table-second : goal.bounds-table-second
bounds-table-second c = simp length-set (omega arith)

pub bounds-table-third : goal.bounds-table-third
bounds-table-third c = simp length-set (omega arith)

pub bounds-table-fourth : goal.bounds-table-fourth
bounds-table-fourth c = simp length-set (omega arith)

pub bounds-table-fifth : goal.bounds-table-fifth
bounds-table-fifth c = simp length-set (omega arith)

pub bounds-table-sixth : goal.bounds-table-sixth
bounds-table-sixth c = simp length-set (omega arith)

pub returns-then-n-height : goal.returns-then-n-height
returns-then-n-height c = record { is = columns-put 6 _ _ _ (omega arith) }

pub returns-else-n-height : goal.returns-else-n-height
returns-else-n-height c = record { is = columns-not 6 _ _ _ c.if-n-height.false }
