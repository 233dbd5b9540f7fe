-- `is_low` meets its contract: where eight bytes are below 128 together, each of them is.
-- Assumes nothing.
use Prim.Native.Nat.{◌-◌}
use mathlib.Core.Bool.{false≢true}
use native.Mathlib.Omega.{arith}
use lib.ListN.{length}
use borrow.Author.Tests.{ltb-true}
use Rattle.text.proofs.Or.{run-below}
use Rattle.text.proofs.utf8.is_low.Goals as goal

pub returns-then-from-s : goal.returns-then-from-s
returns-then-from-s c e k lo hi = omega arith

pub returns-then-a-from : goal.returns-then-a-from
returns-then-a-from c e k lo hi =
    let s = c.args.s.now in
    run-below 7 s (length s - 8) 8 (omega arith) _ c.or_all.ensures (ltb-true c.or_all.result 128 e) k (omega arith) (omega arith)

pub returns-else-a-from : goal.returns-else-a-from
returns-else-a-from c e = absurd (false≢true e)

pub returns-else-s-ge8 : goal.returns-else-s-ge8
returns-else-s-ge8 c e = absurd (false≢true e)
