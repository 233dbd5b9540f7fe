-- Below 1, or up to 4.
-- Assumes nothing.
use borrow.Author.Tests.{lt-leb, le-leb}
use Rattle.block_writer.proofs.judge.is_version.Goals as goal

pub returns-then-version-lt1 : goal.returns-then-version-lt1
returns-then-version-lt1 c = rw (lt-leb 1 c.args.version c.if-version-lt1.true)

pub returns : goal.returns
returns c = rw (le-leb 1 c.args.version c.if-version-lt1.false)
