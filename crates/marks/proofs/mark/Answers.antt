-- One shifted by k % 64 is that power of two. Assumes nothing.
use borrow.Author.Rules.{rules}
use lib.Pow.{shl_exact}
use lib.Dec.{lit<}
use Prim.Native.Nat.{◌%◌}
use native.Mathlib.Omega.{arith}
use native.Mathlib.Nat.{one-mul}
use Rattle.marks.proofs.mark.Goals as goal

pub returns : goal.returns
returns c = rw (shl_exact {a = 1} 1 (c.args.k % 64) 64 (lit< tt) (omega arith), one-mul)
