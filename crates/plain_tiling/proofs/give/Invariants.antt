-- What is left of the places says what all say. Assumes nothing.
use Rattle.std.specs.Prelude.{◌-◌, ◌≡◌}
use Rattle.plain_tiling.specs.Plain.{paint}
use Rattle.plain_tiling.proofs.give.Given as goal

abbrev pub invariant-loop-p : goal.invariant-loop-p
invariant-loop-p l = paint l.initial.owners l.fn.a (l.fn.z - l.fn.a) l.owner ≡ paint l.owners l.p (l.fn.z - l.p) l.owner
