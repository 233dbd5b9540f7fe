-- The invariant: what the search finds from here on is what it finds in all. Assumes nothing.
use Rattle.std.specs.Prelude.{◌+◌, ◌≡◌}
use Rattle.item_rules.proofs.Loops.{Seeking}
use Rattle.item_rules.proofs.by_search.seek.Given as goal

abbrev pub invariant-loop : goal.invariant-loop
invariant-loop l =
    (Seeking l.frame.is_record l.frame.base l.ext l.layout l.rows l.initial.left l.cursor l.left) × (l.left.count + l.counter ≡ l.initial.left.count)
