-- The lines of the numbers that are left are still to be stored.
-- Assumes nothing.
use Rattle.report.proofs.PartLaws.{number-room, number-wrote, numbers-done}
use Rattle.report.proofs.put_refused.Goals as goal

pub put_number-a-requires : goal.put_number-a-requires
put_number-a-requires c = number-room _ c.loop-number.number 256 c.loop-number.invariant c.loop-number-test.true

pub loop-number-preserved : goal.loop-number-preserved
loop-number-preserved c = number-wrote _ c.loop-number.number 256 c.loop-number.invariant c.loop-number-test.true c.put_number-a.ensures

pub returns : goal.returns
returns c = numbers-done _ c.loop-number.number 256 c.loop-number.invariant c.loop-number-test.false
