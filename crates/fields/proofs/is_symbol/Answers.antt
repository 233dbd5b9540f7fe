-- The type is compared with the sheet's. Assumes nothing.
use borrow.Author.Rules.{rules}
use Rattle.fields.specs.Sheet.{is_symbol}
use Rattle.fields.proofs.is_symbol.Goals as goal

pub returns : goal.returns
unfolding is_symbol
returns c = rw (c.wide16.ensures.0, c.type_of.ensures.0)
