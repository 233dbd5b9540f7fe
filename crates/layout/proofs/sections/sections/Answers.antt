-- The invariant: the sections left give what all give; each body is its own part of the layout. Assumes nothing.
use Rattle.codec.specs.CaseLaws.{left_all, left_next}
use Rattle.codec.specs.Telling.{handed_on}
use native.Mathlib.Omega.{arith}
use borrow.Author.Rules.{rules}
use mathlib.Core.Path.{refl, sym, ◌∙◌}
use mathlib.Core.List.{[]}
use Rattle.table.specs.Table.{put_row}
use Rattle.numbers.specs.NumberLaws.{part-place}
use Rattle.wire.specs.SectionLaws.{lies_at}
use Rattle.table.specs.PartLaws.{part_room, part-few}
use Rattle.layout.proofs.Laws.{sections-run, sections-no, sections-end, body-within}
use Rattle.table.specs.ReadingLaws.{Going, going, going-run, going_halt, going-no, going_end, ran_at, ran_refused, ran_shifted, ran_moved}
use Rattle.layout.proofs.Labelling.{cleared_at}
use Rattle.layout.specs.Reader.{sections_at}
use Rattle.marks.specs.Marks.{Marks}
use Rattle.layout.proofs.sections.sections.Goals as goal

pub loop-init : goal.loop-init
loop-init c = rw (left_all c.args.count) (going _ c.requires.0, c.requires.1)

pub body-requires : goal.body-requires
body-requires c =
    let inv = c.loop.invariant in
    let w = lies_at c.section_at.ensures.1 c.in_ok-start.was in
    record { room = part_room _ _ _ c.requires.0.small (omega (arith, inv.0)) w.1 w.2; marks = inv.1 }

pub loop-preserved : goal.loop-preserved
loop-preserved c =
    let section-at = c.section_at.ensures in
    let w = lies_at section-at.1 c.in_ok-start.was in
    rw (left_next c.args.count c.loop.counter) (
      going-run c.loop.invariant.0 _ (sections-run _ _ _ _ _ (omega (arith, c.loop-test.true)) (sym section-at.0 ∙ c.in_ok-start.was))
          (ran_shifted c.body.ensures.ran _ c.in-Ok.is) c.in-Ok.is c.body.auto.table (part-few _ _ _ (ran_at c.body.ensures.ran c.in-Ok.is) w.1 w.2),
      cleared_at c.body.ensures.cleared c.in-Ok.is,
    )

pub overflow_add-start : goal.overflow_add-start
overflow_add-start c =
    let w = lies_at c.section_at.ensures.1 c.in_ok-start.was in
    let h = part-place _ _ _ (body-within _ _ _ _ (ran_refused c.body.ensures.ran c.in-Err.is)) w.1 w.2 in
    omega (arith, h, c.requires.0.small)

pub returns-in-Err : goal.returns-in-Err
returns-in-Err c = rw c.refuse.ensures (record { ran = going_halt c.loop.invariant.0 _ (sections-run _ _ _ _ _ (omega (arith, c.loop-test.true)) (sym c.section_at.ensures.0 ∙ c.in_ok-start.was)) (ran_moved c.body.ensures.ran _ c.in-Err.is) refl; cleared = tt })

pub returns-in_err-start : goal.returns-in_err-start
returns-in_err-start c = rw (handed_on c.from_residual.ensures) (record { ran = going-no c.loop.invariant.0 (sections-no _ _ _ _ _ (omega (arith, c.loop-test.true)) (sym c.section_at.ensures.0 ∙ c.in_err-start.was)); cleared = tt })

pub returns : goal.returns
returns c = record { ran = going_end c.loop.invariant.0 (sections-end _ _ _ _ _ (omega (arith, c.loop-test.false))); cleared = c.loop.invariant.1 }
