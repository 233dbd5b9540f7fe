-- The walk, and what it says beside the furthest end. Assumes nothing.
use mathlib.Core.Path.{ap, ◌∙◌}
use lib.ListN.{length}
use Rattle.plain_tiling.proofs.MarkingLaws.{marked-back, end-clash, end_gap, end-fine}
use Rattle.item_rules.proofs.by_marks.side_end.Goals as goal

pub shape_of-owners-then-m : goal.shape_of-owners-then-m
shape_of-owners-then-m c = ap length (c.give.ensures ∙ marked-back c.requires.unowned c.mark_side-m.ensures)

pub returns-then-m : goal.returns-then-m
returns-then-m c =
    let mark-side = c.mark_side-m.ensures in
    record { value = end-clash mark-side c.if-m.true; owners_unchanged = c.give.ensures ∙ marked-back c.requires.unowned mark-side }

pub shape_of-owners-then-end-top : goal.shape_of-owners-then-end-top
shape_of-owners-then-end-top c = ap length (c.give.ensures ∙ marked-back c.requires.unowned c.mark_side-m.ensures)

pub returns-then-end-top : goal.returns-then-end-top
returns-then-end-top c =
    let mark-side = c.mark_side-m.ensures in
    record { value = end_gap mark-side c.if-m.false c.walk-end.ensures c.if-end-top.true; owners_unchanged = c.give.ensures ∙ marked-back c.requires.unowned mark-side }

pub shape_of-owners : goal.shape_of-owners
shape_of-owners c = ap length (c.give.ensures ∙ marked-back c.requires.unowned c.mark_side-m.ensures)

pub returns : goal.returns
returns c =
    let mark-side = c.mark_side-m.ensures in
    record { value = end-fine mark-side c.if-m.false c.walk-end.ensures c.if-end-top.false; owners_unchanged = c.give.ensures ∙ marked-back c.requires.unowned mark-side }
