-- What is left of the places says what all say. Assumes nothing.
use Rattle.std.specs.Prelude.{◌-◌, ◌≤◌, ◌≡◌, max}
use Rattle.plain_tiling.specs.Plain.{reach}
use Rattle.plain_tiling.proofs.walk.Given as goal

abbrev pub invariant-loop-p : goal.invariant-loop-p
invariant-loop-p l = (reach l.owners l.fn.a (l.fn.z - l.fn.a) ≡ reach l.owners l.p (l.fn.z - l.p)) × (l.p ≤ max l.fn.a l.stop)
