-- The two bytes of the def index. Assumes nothing.
use borrow.Author.Rules.{rules}
use Rattle.fields.specs.Sheet.{def_of}
use Rattle.fields.proofs.def_of.Goals as goal

pub returns : goal.returns
unfolding def_of
returns c = search rules
