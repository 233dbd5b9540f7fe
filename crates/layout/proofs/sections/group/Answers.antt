-- A count, then that many sections. Assumes nothing.
use Rattle.codec.specs.Telling.{handed_on}
use native.Mathlib.Omega.{arith}
use mathlib.Core.Path.{sym, ◌∙◌}
use Rattle.table.specs.ReadingLaws.{ran_on, ran_on-no}
use Rattle.numbers.specs.NumberLaws.{past-at}
use Rattle.layout.specs.Reader.{group_at}
use borrow.Author.Rules.{rules}
use Rattle.layout.proofs.sections.group.Goals as goal

pub sections-requires : goal.sections-requires
sections-requires c =
    let pre = c.requires in
    (omega (arith, past-at c.u16_at.ensures.1 c.in_ok-count.was, pre.room), pre.marks)

pub returns : goal.returns
unfolding group_at
returns c = record { ran = ran_on _ (sym c.u16_at.ensures.0 ∙ c.in_ok-count.was) c.sections.ensures.ran; cleared = c.sections.ensures.cleared }

pub returns-in_err-count : goal.returns-in_err-count
unfolding group_at
returns-in_err-count c = rw (handed_on c.from_residual.ensures) (record { ran = ran_on-no _ (sym c.u16_at.ensures.0 ∙ c.in_err-count.was); cleared = tt })
