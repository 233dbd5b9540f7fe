-- The two bytes of the size. Assumes nothing.
use borrow.Author.Rules.{rules}
use Rattle.fields.specs.Sheet.{size_of}
use Rattle.fields.proofs.size_of.Goals as goal

pub returns : goal.returns
unfolding size_of
returns c = search rules
