-- Part by part. Assumes nothing.
use Rattle.std.proofs.Common.{◌∙◌, ap, ◌≡◌}
use Rattle.std.specs.Slice.Iter.{chunks_rest, chunks_size}
use Rattle.sums.proofs.PartLaws.{before-start, before-next, before-end}
use Rattle.sums.proofs.sums_of.Goals as goal

pub loop-part-init : goal.loop-part-init
loop-part-init c =
    let e = c.into_iter-part-iterator.ensures.into_iter_gives in
    let r : chunks_rest c.into_iter-part-iterator.result ≡ c.args.s.now = ap chunks_rest e ∙ c.chunks-part-items.ensures.rest in
    (ap chunks_size e ∙ c.chunks-part-items.ensures.size, rw r (before-start _))

pub loop-part-preserved : goal.loop-part-preserved
loop-part-preserved c =
    let (size, before) = c.loop-part.invariant in
    let (kept, (parts, len, more)) = c.in-Some.ensures.steps in
    (kept ∙ size, before-next before _ _ parts (rw size at len) c.add_part-t.ensures)

pub returns : goal.returns
returns c = before-end c.loop-part.invariant.1 c.in-None.ensures.steps.1.0
