-- The first, then the second.
-- Assumes nothing.
use borrow.Author.Tests.{le-leb, lt-leb}
use native.Mathlib.Omega.{arith}
use Rattle.row_bytes.proofs.are_days.Goals as goal

pub returns-then-x-gt3652424 : goal.returns-then-x-gt3652424
returns-then-x-gt3652424 c = rw (lt-leb c.args.x 3652424 c.if-x-gt3652424.true)

pub returns : goal.returns
returns c = rw (le-leb c.args.x 3652424 (let h = c.if-x-gt3652424.false in omega arith))
