-- What is left gives what all gives. Assumes nothing.
use Rattle.std.specs.Prelude.{◌+◌, ◌-◌, ◌*◌, ◌≤◌, ◌≡◌}
use Rattle.tidy.specs.Walk.{labels_from}
use Rattle.tidy.proofs.walk.labels.Given as goal

abbrev pub invariant-loop : goal.invariant-loop
invariant-loop l = (labels_from l.s l.at 0 l.count ≡ labels_from l.s l.p l.least (l.count - l.counter)) × (l.p ≤ l.at + 259 * l.counter)
