-- The invariant: the labels left, after the codes that are marked, give what all give. Assumes nothing.
use Rattle.std.specs.Prelude.{◌-◌, ◌<◌}
use Rattle.codec.specs.CaseLaws.{left_all, left_next}
use Rattle.codec.specs.Telling.{handed_on}
use native.Mathlib.Omega.{arith}
use borrow.Author.Rules.{rules}
use mathlib.Core.Path.{sym, ◌∙◌}
use mathlib.Core.List.{[]}
use Rattle.numbers.specs.NumberLaws.{past-at}
use Rattle.layout.proofs.Laws.{labels-row, labels-no, labels_no2, labels_55, labels-end}
use Rattle.table.specs.ReadingLaws.{put-row_as, going, going-row, going-no, going_end}
use Rattle.marks.specs.MarkLaws.{marks-more}
use Rattle.layout.proofs.Labelling.{Labelling, label-place, trail, trail-next, trail-end}
use Rattle.layout.proofs.labels.labels.Goals as goal

pub loop-init : goal.loop-init
loop-init c = rw (left_all c.args.count) (record { seen = []; going = going _ c.requires.0; marks = c.requires.1; trail = trail _ _ _ })

pub returns-then-is_marked : goal.returns-then-is_marked
returns-then-is_marked c =
    let inv = c.loop.invariant in
    let u16-at = c.u16_at.ensures in
    rw c.refuse.ensures (record { ran = going-no inv.going (labels_55 _ _ _ _ _ _ (omega (arith, c.loop-test.true)) (sym u16-at.0 ∙ c.in_ok-code.was) (sym c.name_in.ensures.0 ∙ c.in_ok-len.was) (sym (inv.marks.right _ (past-at u16-at.1 c.in_ok-code.was).2) ∙ sym c.is_marked.ensures ∙ c.if-is_marked.true)); cleared = tt })

pub overflow_add-q : goal.overflow_add-q
overflow_add-q c = omega (arith, past-at c.name_in.ensures.1 c.in_ok-len.was)

pub overflow_add-base : goal.overflow_add-base
overflow_add-base c = omega (arith, past-at c.name_in.ensures.1 c.in_ok-len.was)

pub label_row-row-requires : goal.label_row-row-requires
label_row-row-requires c = omega (arith, past-at c.name_in.ensures.1 c.in_ok-len.was, past-at c.u16_at.ensures.1 c.in_ok-code.was)

pub overflow_add-k : goal.overflow_add-k
overflow_add-k c = omega (arith, past-at c.name_in.ensures.1 c.in_ok-len.was, c.loop.invariant.going, c.requires.0)

pub loop-preserved : goal.loop-preserved
loop-preserved c =
    let inv = c.loop.invariant in
    let more : 0 < c.args.count - c.loop.counter = omega (arith, c.loop-test.true) in
    let u16-at = c.u16_at.ensures in
    let name-at = c.name_in.ensures in
    let w = label-place _ _ _ (sym u16-at.0 ∙ c.in_ok-code.was) (sym name-at.0 ∙ c.in_ok-len.was) (past-at name-at.1 c.in_ok-len.was).1 in
    let free = sym (inv.marks.right _ (past-at u16-at.1 c.in_ok-code.was).2) ∙ sym c.is_marked.ensures ∙ c.if-is_marked.false in
    rw (left_next c.args.count c.loop.counter) (record {
      seen = _;
      going = going-row inv.going (labels-row _ _ _ _ _ _ more (sym u16-at.0 ∙ c.in_ok-code.was) (sym name-at.0 ∙ c.in_ok-len.was) free)
          (put-row_as c.label_row-row.ensures c.put_row.ensures) c.put_row.auto.table (omega (arith, past-at u16-at.1 c.in_ok-code.was, past-at name-at.1 c.in_ok-len.was, inv.going));
      marks = rw c.mark.ensures (marks-more _ _ _ (past-at u16-at.1 c.in_ok-code.was).2 inv.marks);
      trail = trail-next _ inv.trail more w.0 w.1 (past-at name-at.1 c.in_ok-len.was).1;
    })

pub returns-in_err-len : goal.returns-in_err-len
returns-in_err-len c = rw (handed_on c.from_residual-in_err-len.ensures) (record { ran = going-no c.loop.invariant.going (labels_no2 _ _ _ _ _ _ (omega (arith, c.loop-test.true)) (sym c.u16_at.ensures.0 ∙ c.in_ok-code.was) (sym c.name_in.ensures.0 ∙ c.in_err-len.was)); cleared = tt })

pub returns-in_err-code : goal.returns-in_err-code
returns-in_err-code c = rw (handed_on c.from_residual.ensures) (record { ran = going-no c.loop.invariant.going (labels-no _ _ _ _ _ _ (omega (arith, c.loop-test.true)) (sym c.u16_at.ensures.0 ∙ c.in_err-code.was)); cleared = tt })

pub unmark-requires : goal.unmark-requires
unmark-requires c = trail-end c.loop.invariant.trail (omega (arith, c.loop-test.false)) c.loop.invariant.marks

pub returns : goal.returns
returns c = record { ran = going_end c.loop.invariant.going (labels-end _ _ _ _ _ _ (omega (arith, c.loop-test.false))); cleared = c.unmark.ensures }
