-- What is left to write is the blocks of the bytes that are left. Assumes nothing.
use Rattle.std.proofs.Common.{◌≡◌, ◌-◌, ◌*◌, ◌+◌, ◌<◌, ◌≤◌, length}
use Rattle.std.specs.Slice.Iter.{chunks_rest, chunks_size}
use Rattle.std.specs.Iterator.Adapters.{enumerate_source, enumerate_count}
use Rattle.codec.specs.Codec.{times_print}
use Rattle.put.specs.OutputLaws.{Left}
use Rattle.house_file.specs.House.{block, blocks_from}
use Rattle.house_file.proofs.write.put_blocks.Given as goal

abbrev pub invariant-loop-index : goal.invariant-loop-index
invariant-loop-index l = record {
  size : chunks_size (enumerate_source l.index-iterator) ≡ 504;
  left : Left 0 (times_print block.codec (blocks_from l.n 0 l.s)) l.initial.out l.at (times_print block.codec (blocks_from (l.n - enumerate_count l.index-iterator) (enumerate_count l.index-iterator) (chunks_rest (enumerate_source l.index-iterator)))) l.out;
  more : 504 * (l.n - enumerate_count l.index-iterator) < length (chunks_rest (enumerate_source l.index-iterator)) + 504;
  most : length (chunks_rest (enumerate_source l.index-iterator)) ≤ 504 * (l.n - enumerate_count l.index-iterator);
}
