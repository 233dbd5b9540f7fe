-- The loop stores the row's numbers one after the other. Assumes nothing.
use Rattle.table.specs.ReadingLaws.{put-not, put-none}
use Rattle.table.proofs.Putting.{put_next, put-done}
use Rattle.table.proofs.put_row.Goals as goal
use Rattle.table.proofs.put_row.Goals.{else-w-gt0-via-then-w-gt0+else-n-table, else-w-gt0-via-else-w-gt0}

pub loop-j-preserved : goal.loop-j-preserved
loop-j-preserved c = put_next c.loop-j.invariant c.loop-j-test.true

pub returns-after-loop-j : goal.returns-after-loop-j
returns-after-loop-j c = record { is = put-done c.loop-j.invariant c.loop-j-test.false c.if-n-table.true }

pub returns-else-w-gt0 : goal.returns-else-w-gt0
returns-else-w-gt0 c = elim c.else-w-gt0.branch [
  | else-w-gt0-via-then-w-gt0+else-n-table w ↦ record { is = put-not _ _ _ _ w.if-n-table.false }
  | else-w-gt0-via-else-w-gt0 w ↦ record { is = put-none _ c.args.n c.args.row.now w.if-w-gt0.false }
]
