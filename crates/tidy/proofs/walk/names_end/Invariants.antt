-- What is left gives what all gives. Assumes nothing.
use Rattle.std.specs.Prelude.{◌+◌, ◌-◌, ◌*◌, ◌≤◌, ◌≡◌}
use Rattle.tidy.specs.Walk.{names_from}
use Rattle.tidy.proofs.walk.names_end.Given as goal

abbrev pub invariant-loop : goal.invariant-loop
invariant-loop l = (names_from l.s l.at l.count ≡ names_from l.s l.p (l.count - l.counter)) × (l.p ≤ l.at + 257 * l.counter)
