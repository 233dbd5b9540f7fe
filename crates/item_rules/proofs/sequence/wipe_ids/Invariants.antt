-- The invariant: only ids of the entries left are marked. Assumes nothing.
use Rattle.std.specs.Prelude.{◌+◌, ◌≡◌}
use Rattle.item_rules.proofs.Loops.{Wiping}
use Rattle.item_rules.proofs.sequence.wipe_ids.Given as goal

abbrev pub invariant-loop : goal.invariant-loop
invariant-loop l =
    (Wiping l.layout l.rows l.left l.marks) × (l.left.count + l.counter ≡ l.initial.left.count)
