-- The type is compared with the sheet's. Assumes nothing.
use borrow.Author.Rules.{rules}
use Rattle.fields.specs.Sheet.{is_struct}
use Rattle.fields.proofs.is_struct.Goals as goal

pub returns : goal.returns
unfolding is_struct
returns c = rw (c.wide16.ensures.0, c.type_of.ensures.0)
