-- Each way out is an exit of the format of sections. Assumes nothing.
use native.Mathlib.Omega.{arith}
use mathlib.Core.Path.{sym, ◌∙◌}
use Rattle.codec.specs.Telling.{handed_on}
use Rattle.numbers.specs.NumberLaws.{past-at}
use Rattle.wire.specs.SectionLaws.{lies-mk, section-short, section_51, section_50, section-read}
use Rattle.wire.specs.Reader.{outside}
use borrow.Author.Rules.{rules}
use Rattle.wire.proofs.section_at.Goals as goal

pub returns-then-len-lt2 : goal.returns-then-len-lt2
returns-then-len-lt2 c = rw c.refuse.ensures (section_51 _ _ (sym c.u16_at.ensures.0 ∙ (c.in_ok-len.was)) (omega arith), outside)

pub returns-then-left-n : goal.returns-then-left-n
returns-then-left-n c = rw c.refuse-then-left-n.ensures (section_50 _ _ (sym c.u16_at.ensures.0 ∙ (c.in_ok-len.was)) (omega arith) (omega arith), outside)

pub returns : goal.returns
returns c =
    let read = c.u16_at.ensures in
    (section-read _ _ (sym read.0 ∙ (c.in_ok-len.was)) (omega arith) (omega arith), lies-mk (past-at read.1 (c.in_ok-len.was)).0 (omega arith) (omega (arith, (past-at read.1 (c.in_ok-len.was)).1)))

pub returns-in_err-len : goal.returns-in_err-len
returns-in_err-len c = rw (handed_on c.from_residual.ensures) (section-short _ _ (sym c.u16_at.ensures.0 ∙ c.in_err-len.was), outside)
