-- The invariant: the words of the parts before are in the check words.
-- Assumes nothing.
use Rattle.std.proofs.Common.{◌≡◌}
use Rattle.std.specs.Slice.Iter.{chunks_rest, chunks_size}
use Rattle.sums.proofs.PartLaws.{Before}
use Rattle.sums.proofs.sums_of.Given as goal

abbrev pub invariant-loop-part : goal.invariant-loop-part
invariant-loop-part l = (chunks_size l.part-iterator ≡ 508) × Before l.s l.t (chunks_rest l.part-iterator)
