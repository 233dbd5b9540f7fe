-- Eleven bytes of seven numbers.
-- Assumes nothing.
use borrow.Author.Rules.{rules}
use Rattle.entry.specs.Entry.{cut_bytes}
use Rattle.entry.proofs.cut.Goals as goal

pub returns : goal.returns
unfolding cut_bytes
returns c = cc
