-- Below 2^64-1, and not 0.
-- Assumes nothing.
use borrow.Author.Tests.{lt-ltb}
use native.Mathlib.Omega.{arith}
use Rattle.block_writer.proofs.given.is_end.Goals as goal

pub returns-then-n-eq0 : goal.returns-then-n-eq0
returns-then-n-eq0 c = rw c.if-n-eq0.true

pub returns : goal.returns
returns c = rw (lt-ltb 0 c.args.n (let h = c.if-n-eq0.false in omega arith))
