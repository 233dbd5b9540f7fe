-- The invariant: the largest so far and the entries left have the largest of all. Assumes nothing.
use Rattle.std.specs.Prelude.{◌+◌, ◌≡◌}
use Rattle.item_rules.proofs.Loops.{Aligning}
use Rattle.item_rules.proofs.sequence.struct_align.Given as goal

abbrev pub invariant-loop : goal.invariant-loop
invariant-loop l =
    (Aligning l.sheet l.layout l.rows l.initial.left l.left l.a) × (l.left.count + l.counter ≡ l.initial.left.count)
