-- A length and that many bytes, by the laws of numbers and bytes. Assumes nothing.
use Rattle.std.proofs.Common.{arith, rules, sym, ◌∙◌, le_refl}
use Rattle.numbers.specs.NumberLaws.{u32_is}
use Rattle.block.proofs.PartLaws.{within-mk, outside-mk, span_none, span-past, span-part}
use Rattle.block.proofs.parts.span_at.Goals as goal

pub returns-then-block-at-lt4 : goal.returns-then-block-at-lt4
returns-then-block-at-lt4 c = rw c.refuse.ensures (span_none _ _ _ _ (omega arith), outside-mk)

pub returns-then-block-start : goal.returns-then-block-start
returns-then-block-start c =
    let args = c.args in
    rw c.refuse-then-block-start.ensures (span-past _ _ _ _ _ (omega arith) (c.u32_of-len.ensures.0 ∙ sym (u32_is args.block.now args.at)) (omega arith), outside-mk)

pub returns : goal.returns
returns c =
    let args = c.args in
    (span-part _ _ _ _ _ (omega arith) (c.u32_of-len.ensures.0 ∙ sym (u32_is args.block.now args.at)) (omega arith), within-mk (le_refl _) (omega arith))
