-- The loop keeps: what is expected after the bytes passed decides the rest as it was decided before them.
-- Assumes nothing.
use Rattle.std.proofs.Common.{◌≡◌, drop}
use Rattle.text.specs.Utf8.{goes}
use Rattle.text.specs.States.{State, meaning}
use Rattle.text.proofs.utf8.run.Given as goal

abbrev pub invariant-loop-i : goal.invariant-loop-i
invariant-loop-i l = State l.st × (goes (meaning l.before) (drop l.a l.s) ≡ goes (meaning l.st) (drop l.i l.s))
