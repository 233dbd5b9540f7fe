-- What is left of the places says what all say. Assumes nothing.
use Rattle.std.specs.Prelude.{◌-◌, ◌≡◌}
use Rattle.plain_tiling.specs.Plain.{taken}
use Rattle.plain_tiling.proofs.is_taken.Given as goal

abbrev pub invariant-loop-p : goal.invariant-loop-p
invariant-loop-p l = taken l.owners l.fn.a (l.fn.z - l.fn.a) ≡ taken l.owners l.p (l.fn.z - l.p)
