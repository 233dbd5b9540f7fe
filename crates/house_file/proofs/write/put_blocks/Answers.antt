-- What is left to write is the blocks of the bytes that are left. Assumes nothing.
use Rattle.std.proofs.Common.{arith, ◌≡◌, ◌+◌, ◌-◌, ◌<◌, length, ap, ◌∙◌, length-append}
use Rattle.std.specs.Slice.Iter.{chunks_rest, chunks_size}
use Rattle.std.specs.Iterator.Adapters.{enumerate_source, enumerate_count}
use Rattle.put.specs.OutputLaws.{left-start, left_step, left-done}
use Rattle.house_file.specs.PackLaws.{from-length}
use Rattle.house_file.proofs.Laws.{blocks_next, blocks_last}
use Rattle.house_file.proofs.write.put_blocks.Goals as goal

pub loop-index-init : goal.loop-index-init
loop-index-init c =
    let it = c.into_iter-index-iterator.result in
    let e = c.into_iter-index-iterator.ensures.into_iter_gives in
    let r : chunks_rest (enumerate_source it) ≡ c.args.s.now = ap (λ x. chunks_rest (enumerate_source x)) e ∙ ap chunks_rest c.enumerate-index-items.ensures.source ∙ c.chunks.ensures.rest in
    let z : enumerate_count it ≡ 0 = ap enumerate_count e ∙ c.enumerate-index-items.ensures.count in
    let m : c.args.n - 0 ≡ c.args.n = omega arith in
    record {
      size = ap (λ x. chunks_size (enumerate_source x)) e ∙ ap chunks_size c.enumerate-index-items.ensures.source ∙ c.chunks.ensures.size;
      left = rw (r, z, m) (left-start (record { fits = omega (arith, from-length c.args.n 0 c.args.s.now) }));
      more = rw (r, z) (omega arith);
      most = rw (r, z) (omega arith);
    }

pub put_block-at-requires : goal.put_block-at-requires
put_block-at-requires c =
    let ((kept, (parts, len, more)), index, counted, fits) = c.in-Some.ensures.steps in
    let n = c.args.n - enumerate_count c.loop-index.index-iterator in
    let left = c.loop-index.invariant.left in
    (omega (arith, len, c.loop-index.invariant.size), omega (arith, from-length n (enumerate_count c.loop-index.index-iterator) (chunks_rest (enumerate_source c.loop-index.index-iterator)), left.ends, left.long, left.room, c.loop-index.invariant.most, more))

pub loop-index-preserved : goal.loop-index-preserved
loop-index-preserved c =
    let ((kept, (parts, len, more)), index, counted, fits) = c.in-Some.ensures.steps in
    let i = enumerate_count c.loop-index.index-iterator in
    let all = chunks_rest (enumerate_source c.loop-index.index-iterator) in
    let size = c.loop-index.invariant.size in
    let least : 0 < c.args.n - i = omega (arith, c.loop-index.invariant.most, more) in
    let next = blocks_next all _ _ parts (rw size at len) i (c.args.n - i) least in
    let step : c.args.n - i - 1 ≡ c.args.n - (i + 1) = omega arith in
    let whole = ap length parts ∙ length-append c.in-Some.part.now _ in
    record {
      size = kept ∙ size;
      left = rw counted (left_step c.loop-index.invariant.left (rw step at next) (rw index at c.put_block-at.ensures));
      more = rw counted (omega (arith, c.loop-index.invariant.more, len, whole, size, least));
      most = rw counted (omega (arith, c.loop-index.invariant.most, len, whole, size, least));
    }

pub returns : goal.returns
returns c =
    let n = c.args.n - enumerate_count c.loop-index.index-iterator in
    let none : 0 < n → ⊥ = λ h. omega (arith, h, c.in-None.ensures.steps.0.1.0, c.loop-index.invariant.more) in
    left-done c.loop-index.invariant.left (blocks_last (enumerate_count c.loop-index.index-iterator) n _ none)
