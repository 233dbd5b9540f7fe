-- Where two bytes are left they are the number of two bytes there.
-- Assumes nothing.
use native.Mathlib.Omega.{arith}
use mathlib.Core.Path.{sym}
use borrow.Author.Rules.{rules}
use Rattle.numbers.specs.Numbers.{refused}
use Rattle.numbers.specs.NumberLaws.{u16-ok, num-no, past-mk}
use Rattle.numbers.proofs.u16_at.Goals as goal

pub returns-then-left-ge2 : goal.returns-then-left-ge2
returns-then-left-ge2 c = (rw c.half.ensures.0 (u16-ok _ _ _ (omega arith)), past-mk (omega arith) (omega arith) (omega arith))

pub returns-else-left-ge2 : goal.returns-else-left-ge2
returns-else-left-ge2 c = (sym (num-no _ _ _ _ (omega arith)), refused)
