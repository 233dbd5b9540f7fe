-- The invariant: what is left goes on from the marks so far as all goes from none. Assumes nothing.
use Rattle.std.specs.Prelude.{◌+◌, ◌≡◌}
use lib.ListN.{length}
use Rattle.item_rules.proofs.Painting.{Painting}
use Rattle.item_rules.proofs.by_marks.mark_side.Given as goal

abbrev pub invariant-loop : goal.invariant-loop
invariant-loop l =
    (Painting l.frame.is_record l.frame.base l.ext l.layout l.rows (length l.initial.owners) l.start l.initial.left l.left l.owners l.owner l.top) × (l.left.count + l.counter ≡ l.initial.left.count)
