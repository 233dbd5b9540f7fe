-- Where four bytes are left they are the number of four bytes there.
-- Assumes nothing.
use native.Mathlib.Omega.{arith}
use mathlib.Core.Path.{sym}
use borrow.Author.Rules.{rules}
use Rattle.numbers.specs.Numbers.{refused}
use Rattle.numbers.specs.NumberLaws.{u32_ok, num-no, past-mk}
use Rattle.numbers.proofs.u32_at.Goals as goal

pub returns-then-left-ge4 : goal.returns-then-left-ge4
returns-then-left-ge4 c = (rw (c.half.ensures.0, c.half-then-left-ge4.ensures.0) (u32_ok _ _ _ (omega arith)), past-mk (omega arith) (omega arith) (omega arith))

pub returns-else-left-ge4 : goal.returns-else-left-ge4
returns-else-left-ge4 c = (sym (num-no _ _ _ _ (omega arith)), refused)
