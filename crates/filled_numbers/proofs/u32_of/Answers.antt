-- A u32 is two u16s, the second where the first ends. Assumes nothing.
use Prim.Native.Nat.{◌+◌}
use native.Mathlib.Omega.{arith}
use Rattle.filled_numbers.specs.PlaceLaws.{u16-on}
use borrow.Author.Rules.{rules}
use Rattle.filled_numbers.proofs.u32_of.Goals as goal

pub returns : goal.returns
returns c = let args = c.args in omega (arith, u16-on args.s.now c.ahead.result (args.at + 2) c.ahead.ensures)
