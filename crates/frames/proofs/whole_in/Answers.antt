-- Each way out is a law at the tests that led there.
-- Assumes nothing.
use Rattle.std.proofs.Common.{arith, sym}
use Rattle.frames.proofs.AtOnceLaws.{none-header, none-length, none-frame, none-room, some-frame}
use Rattle.frames.proofs.whole_in.Goals as goal
use Rattle.frames.proofs.whole_in.Goals.{then-len-lt-RECORD_HEADER_LEN-via-then-len-lt-RECORD_HEADER_LEN, then-len-lt-RECORD_HEADER_LEN-via-else-len-lt-RECORD_HEADER_LEN+then-there-len, then-len-lt-RECORD_HEADER_LEN-via-else-len-lt-RECORD_HEADER_LEN+else-there-len+then-room-len}

pub returns-then-there-lt-RECORD_HEADER_LEN : goal.returns-then-there-lt-RECORD_HEADER_LEN
returns-then-there-lt-RECORD_HEADER_LEN c = sym (none-header c.args.room c.args.piece.now (omega arith))

pub returns-then-len-lt-RECORD_HEADER_LEN : goal.returns-then-len-lt-RECORD_HEADER_LEN
returns-then-len-lt-RECORD_HEADER_LEN c =
    let n = c.args.room in
    let p = c.args.piece.now in
    elim c.then-len-lt-RECORD_HEADER_LEN.branch [
      | then-len-lt-RECORD_HEADER_LEN-via-then-len-lt-RECORD_HEADER_LEN w ↦ sym (none-length n p (omega arith) (omega arith))
      | then-len-lt-RECORD_HEADER_LEN-via-else-len-lt-RECORD_HEADER_LEN+then-there-len w ↦ sym (none-frame n p (omega arith) (omega arith) (omega arith))
      | then-len-lt-RECORD_HEADER_LEN-via-else-len-lt-RECORD_HEADER_LEN+else-there-len+then-room-len w ↦ sym (none-room n p (omega arith) (omega arith) (omega arith) (omega arith))
    ]

pub returns : goal.returns
returns c = sym (some-frame c.args.room c.args.piece.now (omega arith) (omega arith) (omega arith) (omega arith))
