-- The byte of the type. Assumes nothing.
use borrow.Author.Rules.{rules}
use Rattle.fields.specs.Sheet.{type_of}
use Rattle.fields.proofs.type_of.Goals as goal

pub returns : goal.returns
unfolding type_of
returns c = search rules
