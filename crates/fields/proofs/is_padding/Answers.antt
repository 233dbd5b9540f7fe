-- The type is compared with the sheet's. Assumes nothing.
use borrow.Author.Rules.{rules}
use Rattle.fields.specs.Sheet.{is_padding}
use Rattle.fields.proofs.is_padding.Goals as goal

pub returns : goal.returns
unfolding is_padding
returns c = rw (c.wide16.ensures.0, c.type_of.ensures.0)
