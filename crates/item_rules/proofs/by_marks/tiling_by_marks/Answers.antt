-- The two engines agree on entries that passed. Assumes nothing.
use mathlib.Core.Path.{ap, ◌∙◌}
use lib.ListN.{length}
use Rattle.item_rules.specs.EngineLaws.{base_engines, ext_engines}
use Rattle.item_rules.proofs.Loops.{tiling_base, tiling_ext}
use Rattle.item_rules.proofs.by_marks.tiling_by_marks.Goals as goal

pub base_by_marks-b-requires : goal.base_by_marks-b-requires
base_by_marks-b-requires c = c.requires

pub shape_of-owners-then-b-ne0 : goal.shape_of-owners-then-b-ne0
shape_of-owners-then-b-ne0 c = ap length c.base_by_marks-b.ensures.owners_unchanged

pub returns-then-b-ne0 : goal.returns-then-b-ne0
returns-then-b-ne0 c = record { value = tiling_base _ _ _ (c.base_by_marks-b.ensures.value ∙ base_engines c.requires.passed) c.if-b-ne0.true; owners_unchanged = c.base_by_marks-b.ensures.owners_unchanged }

pub ext_by_marks-requires : goal.ext_by_marks-requires
ext_by_marks-requires c = rw c.base_by_marks-b.ensures.owners_unchanged c.requires

pub shape_of-owners : goal.shape_of-owners
shape_of-owners c = ap length (c.ext_by_marks.ensures.owners_unchanged ∙ c.base_by_marks-b.ensures.owners_unchanged)

pub returns : goal.returns
returns c =
    let pre = c.requires in
    let base-by-marks = c.base_by_marks-b.ensures in
    record { value = tiling_ext _ _ _ (base-by-marks.value ∙ base_engines pre.passed) c.if-b-ne0.false (c.ext_by_marks.ensures.value ∙ ext_engines pre.passed); owners_unchanged = (c.ext_by_marks.ensures.owners_unchanged ∙ base-by-marks.owners_unchanged) }
