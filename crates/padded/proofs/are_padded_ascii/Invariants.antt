-- The texts that are left tell of all. Assumes nothing.
use Rattle.std.proofs.Common.{◌≡◌, ◌/◌, length}
use Rattle.std.specs.Slice.Iter.{chunks_exact_rest, chunks_exact_size}
use Rattle.padded.specs.Padded.{each_padded}
use Rattle.padded.proofs.are_padded_ascii.Given as goal

abbrev pub invariant-loop-text : goal.invariant-loop-text
invariant-loop-text l =
    goal.iterator-loop-text.can_next l.text-iterator
    × goal.iterator-loop-text.is_finite l.text-iterator
    × (chunks_exact_size l.text-iterator ≡ l.width)
    × (each_padded l.width (length l.s / l.width) l.s ≡ each_padded l.width (length (chunks_exact_rest l.text-iterator) / l.width) (chunks_exact_rest l.text-iterator))
