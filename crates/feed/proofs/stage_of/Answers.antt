-- Each way out is a law of held bytes at the tests that led there.
-- Assumes nothing.
use Rattle.std.specs.Prelude.{◌+◌, length, Ok}
use Rattle.std.proofs.Common.{arith, rules, sym, ap, ◌∙◌, length-take-le}
use Rattle.std.proofs.lemmas.Result.{err_from_is_err_and}
use Rattle.held.specs.Held.{within}
use Rattle.held.proofs.StageLaws.{stage_beyond, stage-small, stage_in, bounded-short}
use Rattle.feed.specs.Feeding.{announced, start}
use Rattle.feed.proofs.stage_of.Goals as goal

pub returns-then-room-held : goal.returns-then-room-held
returns-then-room-held c = c.refused.ensures ∙ sym (stage_beyond start c.args.held c.args.store.now (omega arith))

pub returns-then-room-lt-METADATA_PRELUDE_LEN : goal.returns-then-room-lt-METADATA_PRELUDE_LEN
returns-then-room-lt-METADATA_PRELUDE_LEN c = c.refused-then-room-lt-METADATA_PRELUDE_LEN.ensures ∙ sym (stage-small start c.args.held c.args.store.now (omega arith) (omega arith))

pub slice_bounds-prelude-end : goal.slice_bounds-prelude-end
slice_bounds-prelude-end c = sym (length-take-le c.args.held c.args.store.now (omega arith))

pub returns-then-room-len : goal.returns-then-room-len
returns-then-room-len c =
    let k = c.args.held in
    let st = c.args.store.now in
    let p = sym c.prelude.ensures ∙ c.in_ok-k.was ∙ ap Ok c.in-Whole.is in
    let len = c.in-Whole.len in
    c.refused-then-room-len.ensures ∙ sym (stage_in start k st (omega arith) (omega arith) ∙ ap (λ x. within 2 (length st) k (announced x)) p ∙ bounded-short 2 (length st) k (8 + len) _ (omega arith))

pub returns-in-Needs : goal.returns-in-Needs
returns-in-Needs c =
    let k = c.args.held in
    let st = c.args.store.now in
    let p = sym c.prelude.ensures ∙ c.in_ok-k.was ∙ ap Ok c.in-Needs.is in
    sym (stage_in start k st (omega arith) (omega arith) ∙ ap (λ x. within 2 (length st) k (announced x)) p)

pub returns-in_err-k : goal.returns-in_err-k
returns-in_err-k c =
    let k = c.args.held in
    let st = c.args.store.now in
    let p = err_from_is_err_and c.from_residual.result c.from_residual.ensures.1 in
    let q = sym c.prelude.ensures ∙ c.in_err-k.was in
    rw (p.1, p.2) (sym (stage_in start k st (omega arith) (omega arith) ∙ ap (λ x. within 2 (length st) k (announced x)) q))

pub returns-else-room-len : goal.returns-else-room-len
returns-else-room-len c =
    let k = c.args.held in
    let st = c.args.store.now in
    let p = sym c.prelude.ensures ∙ c.in_ok-k.was ∙ ap Ok c.in-Whole.is in
    c.bounded.ensures ∙ sym (stage_in start k st (omega arith) (omega arith) ∙ ap (λ x. within 2 (length st) k (announced x)) p)
