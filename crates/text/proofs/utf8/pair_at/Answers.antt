-- `pair_at` meets its contract: less than two bytes are left, or the two are tested. Assumes nothing.
use Prim.Native.Nat.{◌+◌, ◌-◌}
use native.Mathlib.Omega.{arith}
use lib.ListN.{length, get_or}
use borrow.Author.Tests.{le-leb, lt-leb}
use Rattle.text.proofs.Goes.{letter-is}
use Rattle.text.proofs.utf8.pair_at.Goals as goal

pub returns-then-s-i-lt2 : goal.returns-then-s-i-lt2
returns-then-s-i-lt2 c =
    let args = c.args in
    rw (lt-leb 2 (length args.s.now - args.i) c.if-s-i-lt2.true)

pub returns : goal.returns
returns c =
    let args = c.args in
    let s = args.s.now in
    rw (le-leb 2 (length s - args.i) (omega arith)) (letter-is (get_or s args.i 0) (get_or s (args.i + 1) 0))
