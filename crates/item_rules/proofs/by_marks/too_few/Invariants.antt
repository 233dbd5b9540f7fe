-- The invariant: where the entries left all end below n, all do. Assumes nothing.
use Rattle.std.specs.Prelude.{◌+◌, ◌≡◌}
use Rattle.item_rules.proofs.Painting.{Ending}
use Rattle.item_rules.proofs.by_marks.too_few.Given as goal

abbrev pub invariant-loop : goal.invariant-loop
invariant-loop l =
    (Ending l.layout l.rows l.n l.initial.left l.left) × (l.left.count + l.counter ≡ l.initial.left.count)
