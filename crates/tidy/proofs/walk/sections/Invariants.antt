-- What is left gives what all gives. Assumes nothing.
use Rattle.std.specs.Prelude.{◌+◌, ◌-◌, ◌*◌, ◌≤◌, ◌≡◌}
use Rattle.tidy.specs.Walk.{sections_from}
use Rattle.tidy.specs.Kinds.{number}
use Rattle.tidy.proofs.walk.sections.Given as goal

abbrev pub invariant-loop : goal.invariant-loop
invariant-loop l = (sections_from (number l.kind) l.s l.at l.count ≡ sections_from (number l.kind) l.s l.p (l.count - l.counter)) × (l.p ≤ l.at + 65536 * l.counter)
