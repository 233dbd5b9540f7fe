-- The two bytes of the id. Assumes nothing.
use borrow.Author.Rules.{rules}
use Rattle.fields.specs.Sheet.{id_of}
use Rattle.fields.proofs.id_of.Goals as goal

pub returns : goal.returns
unfolding id_of
returns c = search rules
