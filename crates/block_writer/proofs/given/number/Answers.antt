-- Each element of the slice is a value of its type.
-- Assumes nothing.
use native.Mathlib.Omega.{arith}
use borrow.Author.Rules.{rules}
use Rattle.block_writer.proofs.given.number.Goals as goal

pub returns : goal.returns
returns c = (search rules, λ i. omega (arith, c.shared_slice_known-1.given i))
