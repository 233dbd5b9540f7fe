-- The two bytes of the offset. Assumes nothing.
use borrow.Author.Rules.{rules}
use Rattle.fields.specs.Sheet.{off_of}
use Rattle.fields.proofs.off_of.Goals as goal

pub returns : goal.returns
unfolding off_of
returns c = search rules
