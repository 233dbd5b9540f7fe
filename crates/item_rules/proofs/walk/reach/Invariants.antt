-- What is left stands and ends as all do. Assumes nothing.
use Rattle.std.specs.Prelude.{◌-◌}
use Rattle.item_rules.proofs.Walks.{Reaching}
use Rattle.item_rules.proofs.walk.reach.Given as goal

abbrev pub invariant-loop : goal.invariant-loop
invariant-loop l = Reaching l.layout l.rows l.is_record l.in_rows l.fn.place.at l.fn.place.left l.at (l.fn.place.left - l.counter)
