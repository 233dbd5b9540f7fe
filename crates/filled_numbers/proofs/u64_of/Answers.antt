-- A u64 is two u32s, the second where the first ends. Assumes nothing.
use Prim.Native.Nat.{◌+◌}
use native.Mathlib.Omega.{arith}
use Rattle.filled_numbers.specs.PlaceLaws.{u32_on}
use borrow.Author.Rules.{rules}
use Rattle.filled_numbers.proofs.u64_of.Goals as goal

pub returns : goal.returns
returns c = let args = c.args in omega (arith, u32_on args.s.now c.ahead.result (args.at + 4) c.ahead.ensures)
