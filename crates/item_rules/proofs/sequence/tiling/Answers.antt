-- By search, or by marks where it gives up and there are enough owners. Assumes nothing.
use mathlib.Core.Path.{refl, ap}
use lib.ListN.{length}
use Rattle.item_rules.specs.Tried.{answered, gave_up}
use Rattle.item_rules.specs.TriedLaws.{tried-is}
use Rattle.item_rules.proofs.sequence.tiling.Goals as goal

pub returns-then-v-ne-GAVE_UP : goal.returns-then-v-ne-GAVE_UP
returns-then-v-ne-GAVE_UP c = record { tried = answered (tried-is c.tiling_by_search-v.ensures c.if-v-ne-GAVE_UP.true); owners_unchanged = refl }

pub too_few-requires : goal.too_few-requires
too_few-requires c = let pre = c.requires in record { in_slice = pre.in_slice; passed = pre.passed }

pub returns-then-too_few : goal.returns-then-too_few
returns-then-too_few c = record { tried = gave_up refl (c.too_few.ensures.below_65536 c.if-too_few.true); owners_unchanged = refl }

pub tiling_by_marks-requires : goal.tiling_by_marks-requires
tiling_by_marks-requires c =
    let pre = c.requires in
    record { in_slice = pre.in_slice; passed = pre.passed; markable = c.too_few.ensures.markable c.if-too_few.false; unowned = pre.unowned }

pub shape_of-owners : goal.shape_of-owners
shape_of-owners c = ap length c.tiling_by_marks.ensures.owners_unchanged

pub returns : goal.returns
returns c = record { tried = answered c.tiling_by_marks.ensures.value; owners_unchanged = c.tiling_by_marks.ensures.owners_unchanged }
