-- Pair by pair, and the odd byte. Assumes nothing.
use Rattle.std.proofs.Common.{arith, ap, ◌∙◌, ◌≡◌, ◌+◌, ◌*◌, ◌/◌, ◌%◌, ◌<◌, sym, length, get_or}
use Rattle.sums.proofs.PartLaws.{adding_two, adding_one, adding_none, pair-low, pair-high, odd-byte}
use Rattle.sums.proofs.add_part.Goals as goal

pub loop-pair-preserved : goal.loop-pair-preserved
loop-pair-preserved c =
    let s = c.args.s.now in
    let i = c.loop-pair.pair-index in
    let h : i < length s / 2 = omega (arith, c.as_chunks.ensures.front_len, c.loop-pair-test.true) in
    let step : 2 * (i + 1) ≡ 2 * i + 2 = omega arith in
    rw (step, pair-low (length s / 2) i s h c.as_chunks.ensures.front, pair-high (length s / 2) i s h c.as_chunks.ensures.front)
    (adding_two c.loop-pair.invariant (omega (arith, c.type_inv.s (2 * i))) (omega (arith, c.type_inv.s (2 * i + 1))) (omega (arith, c.requires.2)) (omega arith))

pub returns-in-Some : goal.returns-in-Some
returns-in-Some c =
    let s = c.args.s.now in
    let item = c.in-Some.ensures.item.3 in
    let n : 2 * c.loop-pair.pair-index ≡ length s / 2 * 2 = omega (arith, c.as_chunks.ensures.front_len, c.loop-pair-test.false, c.loop-pair.auto.pair-index-end) in
    let m : length s % 2 ≡ 1 = omega (arith, c.as_chunks.ensures.back_len, item.0) in
    let last : c.in-Some.last.now ≡ get_or s (2 * c.loop-pair.pair-index) 0 = item.1 0 ∙ odd-byte s c.as_chunks.ensures.back ∙ ap (λ k. get_or s k 0) (sym n) in
    c.reduce.ensures ∙ rw last (adding_one c.loop-pair.invariant (omega arith) (omega arith))

pub returns-in-None : goal.returns-in-None
returns-in-None c =
    let even : length c.as_chunks.result.1.now ≡ 0 = grind (arith, c.in-None.ensures.item) in
    c.reduce-in-None.ensures ∙ adding_none c.loop-pair.invariant (omega (arith, c.as_chunks.ensures.front_len, c.as_chunks.ensures.back_len, c.loop-pair-test.false, even))
