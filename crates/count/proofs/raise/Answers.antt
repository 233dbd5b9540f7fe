-- The cell is stored anew with the sum.
-- Assumes nothing.
use Rattle.count.specs.Count.{raised}
use borrow.Author.Rules.{rules}
use Rattle.count.proofs.raise.Goals as goal

pub returns : goal.returns
unfolding raised
returns c = rw c.sum.ensures
