-- Each way out is a law of held bytes at the tests that led there.
-- Assumes nothing.
use native.Mathlib.Omega.{arith}
use mathlib.Core.Path.{sym, ◌∙◌}
use Rattle.held.proofs.StageLaws.{stage_beyond, stage-small, stage-head}
use Rattle.frames.specs.Frames.{frame}
use Rattle.frames.proofs.HeaderLaws.{frame-law, bad-held, good-held}
use Rattle.frames.proofs.stage_of.Goals as goal

pub returns-then-room-held : goal.returns-then-room-held
returns-then-room-held c = c.refused.ensures ∙ sym (stage_beyond frame c.args.held c.args.store.now (omega arith))

pub returns-then-room-lt-RECORD_HEADER_LEN : goal.returns-then-room-lt-RECORD_HEADER_LEN
returns-then-room-lt-RECORD_HEADER_LEN c = c.refused-then-room-lt-RECORD_HEADER_LEN.ensures ∙ sym (stage-small frame c.args.held c.args.store.now (omega arith) (omega arith))

pub returns-then-held-lt-RECORD_HEADER_LEN : goal.returns-then-held-lt-RECORD_HEADER_LEN
returns-then-held-lt-RECORD_HEADER_LEN c = sym (stage-head frame frame-law c.args.held c.args.store.now (omega arith) (omega arith))

pub overflow_cast-len : goal.overflow_cast-len
overflow_cast-len c = omega (arith, c.shared_slice_known-1.given 0)

pub overflow_mul-len : goal.overflow_mul-len
overflow_mul-len c = omega (arith, c.shared_slice_known-1.given 0)

pub returns-then-len-lt-RECORD_HEADER_LEN : goal.returns-then-len-lt-RECORD_HEADER_LEN
returns-then-len-lt-RECORD_HEADER_LEN c =
    let k = c.args.held in
    let st = c.args.store.now in
    c.refused-then-len-lt-RECORD_HEADER_LEN.ensures ∙ sym (bad-held k st (omega arith) (omega arith) (omega arith))

pub returns : goal.returns
returns c =
    let k = c.args.held in
    let st = c.args.store.now in
    c.bounded.ensures ∙ sym (good-held k st (omega arith) (omega arith) (omega arith))
