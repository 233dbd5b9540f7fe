-- A section that is too long makes the sum the largest.
-- Assumes nothing.
use borrow.Author.Tests.{le-leb, lt-leb}
use Rattle.rows_check.specs.Answers.{size_of}
use Rattle.rows_check.proofs.sizes.add_section.Goals as goal

pub returns-then-x-le65535 : goal.returns-then-x-le65535
unfolding size_of
returns-then-x-le65535 c = rw (le-leb _ _ c.if-x-le65535.true) c.add_to.ensures

pub returns : goal.returns
unfolding size_of
returns c = rw (lt-leb _ _ c.if-x-le65535.false)
