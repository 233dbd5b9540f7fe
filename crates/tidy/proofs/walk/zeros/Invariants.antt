-- What is left gives what all gives. Assumes nothing.
use Rattle.std.specs.Prelude.{◌+◌, ◌-◌, ◌≡◌}
use Rattle.tidy.specs.Walk.{zeros_from}
use Rattle.tidy.proofs.walk.zeros.Given as goal

abbrev pub invariant-loop-p : goal.invariant-loop-p
invariant-loop-p l = zeros_from l.s l.at l.count ≡ zeros_from l.s l.p (l.at + l.count - l.p)
