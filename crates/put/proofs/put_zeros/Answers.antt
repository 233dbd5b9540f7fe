-- The bytes of 0.
-- Assumes nothing.
use Rattle.put.specs.OutputLaws.{stored_is}
use Rattle.put.proofs.StoreLaws.{little-zeros}
use borrow.Author.Rules.{rules}
use Rattle.put.proofs.put_zeros.Goals as goal

pub returns : goal.returns
returns c = stored_is c.put_little.ensures (little-zeros c.args.n)
