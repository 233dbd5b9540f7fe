-- The invariant: the count so far and what is left make the count of the side. Assumes nothing.
use Rattle.std.specs.Prelude.{◌+◌, ◌≡◌}
use Rattle.item_rules.proofs.Loops.{Counting}
use Rattle.item_rules.proofs.by_search.count.Given as goal

abbrev pub invariant-loop : goal.invariant-loop
invariant-loop l =
    (Counting l.frame.is_record l.frame.base l.ext l.layout l.rows l.initial.left l.left l.k) × (l.left.count + l.counter ≡ l.initial.left.count)
