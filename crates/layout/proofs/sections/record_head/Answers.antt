-- Each way out is the first number that does not fit, or the place after them. Assumes nothing.
use native.Mathlib.Omega.{arith}
use mathlib.Core.Path.{◌∙◌}
use Rattle.numbers.specs.Numbers.{refused}
use Rattle.numbers.specs.NumberLaws.{past-mk}
use Rattle.layout.proofs.Laws.{head_ok, head_0, head_2, head_4, head_6}
use borrow.Author.Rules.{rules}
use Rattle.layout.proofs.sections.record_head.Goals as goal

pub returns-then-n-ge14 : goal.returns-then-n-ge14
returns-then-n-ge14 c = (head_ok _ (omega arith), past-mk (omega arith) (omega arith) (omega arith))

pub returns-then-n-lt2 : goal.returns-then-n-lt2
returns-then-n-lt2 c = (c.refuse.ensures ∙ head_0 _ (omega arith), rw c.refuse.ensures refused)

pub returns-then-n-lt4 : goal.returns-then-n-lt4
returns-then-n-lt4 c = (c.refuse-then-n-lt4.ensures ∙ head_2 _ (omega arith) (omega arith), rw c.refuse-then-n-lt4.ensures refused)

pub returns-then-n-lt6 : goal.returns-then-n-lt6
returns-then-n-lt6 c = (c.refuse-then-n-lt6.ensures ∙ head_4 _ (omega arith) (omega arith), rw c.refuse-then-n-lt6.ensures refused)

pub returns : goal.returns
returns c = (c.refuse-2.ensures ∙ head_6 _ (omega arith) (omega arith), rw c.refuse-2.ensures refused)
