-- What is left gives what all gives. Assumes nothing.
use Rattle.std.specs.Prelude.{◌+◌, ◌-◌, ◌*◌, ◌≤◌, ◌≡◌}
use Rattle.tidy.specs.Walk.{entries_from}
use Rattle.tidy.proofs.walk.entries.Given as goal

abbrev pub invariant-loop : goal.invariant-loop
invariant-loop l = (entries_from l.s l.at l.count ≡ entries_from l.s l.p (l.count - l.counter)) × (l.p ≤ l.at + 65536 * l.counter)
