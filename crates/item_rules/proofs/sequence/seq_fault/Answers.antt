-- The numbers one after the other. Assumes nothing.
use mathlib.Core.Path.{refl, ap}
use lib.ListN.{length}
use Rattle.item_rules.specs.Tried.{answered}
use Rattle.item_rules.specs.TriedLaws.{tried_as}
use Rattle.item_rules.specs.EngineLaws.{passed}
use Rattle.item_rules.proofs.InOrder.{tiling_order}
use Rattle.item_rules.proofs.Loops.{seq-fields, seq_tiling}
use Rattle.item_rules.proofs.sequence.seq_fault.Goals as goal

pub returns-in-Err : goal.returns-in-Err
returns-in-Err c =
    let b = c.in-Err.ensures.broken in
    record { tried = answered (seq-fields _ _ _ _ _ _ _ _ _ b.0 b.1); clean = λ z. absurd (b.1 z); owners_unchanged = refl }

pub wipe_ids-requires : goal.wipe_ids-requires
wipe_ids-requires c = record { in_slice = c.requires.in_slice; only = c.in-Ok.ensures.only_ids }

pub returns-in-Some : goal.returns-in-Some
returns-in-Some c =
    let pre = c.requires in
    let none = c.in-Ok.ensures.sound in
    record { tried = answered (seq_tiling _ _ _ _ _ _ _ _ _ refl none (tiling_order (passed _ _ _ _ _ _ _ _ pre.base_bound none) (rw c.in-Some.is at c.in-Ok.ensures.in_turn) c.unfilled.ensures)); clean = λ _. c.wipe_ids.ensures; owners_unchanged = refl }

pub tiling-requires : goal.tiling-requires
tiling-requires c =
    let pre = c.requires in
    record { in_slice = pre.in_slice; passed = passed _ _ _ _ _ _ _ _ pre.base_bound c.in-Ok.ensures.sound; unowned = pre.unowned }

pub shape_of-owners : goal.shape_of-owners
shape_of-owners c = ap length c.tiling.ensures.owners_unchanged

pub returns : goal.returns
returns c = record { tried = tried_as (λ e. seq_tiling _ _ _ _ _ _ _ _ _ refl c.in-Ok.ensures.sound e) c.tiling.ensures.tried; clean = λ _. c.wipe_ids.ensures; owners_unchanged = c.tiling.ensures.owners_unchanged }
