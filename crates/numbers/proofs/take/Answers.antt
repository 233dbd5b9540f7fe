-- Within the end n bytes are taken, past it they are refused.
-- Assumes nothing.
use native.Mathlib.Omega.{arith}
use mathlib.Core.Path.{sym}
use borrow.Author.Rules.{rules}
use Rattle.numbers.specs.Numbers.{refused}
use Rattle.numbers.specs.NumberLaws.{take-ok, take_no, past-mk}
use Rattle.numbers.proofs.take.Goals as goal

pub returns-then-n-s : goal.returns-then-n-s
returns-then-n-s c = (sym (take-ok _ _ _ _ (omega arith)), past-mk (omega arith) (omega arith) (omega arith))

pub returns : goal.returns
returns c = (sym (take_no _ _ _ _ (omega arith)), refused)
