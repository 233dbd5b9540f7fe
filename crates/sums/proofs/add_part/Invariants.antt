-- The invariant: what is left to add. The sums stay small, since no more than 508 bytes are added.
-- Assumes nothing.
use Rattle.std.proofs.Common.{◌*◌}
use Rattle.sums.proofs.PartLaws.{Adding}
use Rattle.sums.proofs.add_part.Given as goal

abbrev pub invariant-loop-pair : goal.invariant-loop-pair
invariant-loop-pair l = Adding l.fn.a l.fn.b l.s l.x l.y (2 * l.pair-index)
