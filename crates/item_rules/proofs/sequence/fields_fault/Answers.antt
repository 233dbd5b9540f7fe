-- The invariant: the fields left give the same number, the marks are the ids so far, and where those left go on in order all are in
-- order. Assumes nothing.
use Rattle.std.specs.Prelude.{◌<◌, ◌≤◌}
use mathlib.Core.Path.{◌≡◌, refl, sym, ◌∙◌}
use Rattle.codec.specs.Telling.{some_told, none_told}
use Rattle.item_rules.proofs.Loops.{fielding, fields-stop, fields_go, fields-end, fields-marks}
use Rattle.item_rules.proofs.InOrder.{following, follow_go, follow_end}
use native.Mathlib.Omega.{arith}
use borrow.Author.Rules.{rules}
use Rattle.item_rules.proofs.sequence.fields_fault.Goals as goal

pub loop-init : goal.loop-init
loop-init c = (fielding _ _ _ _ _ _ _ _ _ c.requires.in_slice c.requires.marks, following _ _ _ _ _, omega arith)

pub entry_at-e-requires : goal.entry_at-e-requires
entry_at-e-requires c = record { in_slice = c.loop.invariant.0.room; count_nonzero = (omega (arith, c.loop.invariant.2)) }

pub returns-in-Some : goal.returns-in-Some
returns-in-Some c =
    let n = some_told _ c.in-Some.ensures in
    let some : c.in-Some.number ≡ 0 → ⊥ = λ z. n.0 (sym n.1 ∙ z) in
    let stop = fields-stop _ _ _ _ _ _ _ _ c.loop.invariant.0 (omega (arith, c.loop.invariant.2)) c.entry_at-e.ensures c.class_of-c.ensures.id (search rules) c.is_marked-seen.ensures n.1 some in
    record { sound = tt; broken = (stop, some); only_ids = tt; in_turn = tt }

pub rest-left-requires : goal.rest-left-requires
rest-left-requires c = ((omega (arith, c.loop.invariant.2)), c.loop.invariant.0.room.small)

pub loop-preserved : goal.loop-preserved
loop-preserved c =
    let inv = c.loop.invariant in
    let more : 0 < c.loop.left.count = omega (arith, c.loop.invariant.2) in
    let is = c.entry_at-e.ensures in
    rw c.rest-left.ensures (
      fields_go _ _ _ _ _ _ _ _ inv.0 more is c.class_of-c.ensures.id (search rules) c.is_marked-seen.ensures refl (none_told _ c.in_default.ensures) c.note.ensures,
      follow_go _ _ _ _ inv.1 more is c.onward-so.ensures,
      omega (arith, inv.2),
    )

pub returns-then-so : goal.returns-then-so
returns-then-so c =
    let inv = c.loop.invariant in
    let none : c.loop.left.count ≤ 0 = omega (arith, c.loop.invariant.2) in
    record { sound = sym (fields-end _ _ _ _ _ _ _ _ inv.0 none); broken = tt; only_ids = fields-marks _ _ _ _ _ _ _ _ inv.0 none; in_turn = follow_end _ _ _ _ inv.1 none c.if-so.true }

pub returns : goal.returns
returns c =
    let inv = c.loop.invariant in
    let none : c.loop.left.count ≤ 0 = omega (arith, c.loop.invariant.2) in
    record { sound = sym (fields-end _ _ _ _ _ _ _ _ inv.0 none); broken = tt; only_ids = fields-marks _ _ _ _ _ _ _ _ inv.0 none; in_turn = tt }
