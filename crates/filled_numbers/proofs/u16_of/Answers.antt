-- A u16 is two bytes, the second where the first ends. Assumes nothing.
use Prim.Native.Nat.{◌+◌}
use native.Mathlib.Omega.{arith}
use Rattle.filled_numbers.specs.PlaceLaws.{u8_on}
use borrow.Author.Rules.{rules}
use Rattle.filled_numbers.proofs.u16_of.Goals as goal

pub returns : goal.returns
returns c = let args = c.args in omega (arith, u8_on args.s.now c.ahead.result (args.at + 1) c.ahead.ensures)
