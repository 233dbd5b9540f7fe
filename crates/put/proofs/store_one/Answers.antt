-- One store.
-- Assumes nothing.
use Rattle.put.proofs.StoreLaws.{wrote-set}
use borrow.Author.Rules.{rules}
use Rattle.put.proofs.store_one.Goals as goal

pub returns : goal.returns
returns c = wrote-set c.requires
