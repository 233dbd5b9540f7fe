-- Without a least size no item can be; else the quotient decides. Assumes nothing.
use Rattle.symbology_rows.specs.Reader.{can_be}
use Rattle.symbology_rows.proofs.ReaderLaws.{can_0}
use borrow.Author.Rules.{rules}
use Rattle.symbology_rows.proofs.lists.can_be.Goals as goal

pub returns-then-least-eq0 : goal.returns-then-least-eq0
returns-then-least-eq0 c = rw c.if-least-eq0.true (can_0 c.args.count c.args.room)

pub returns : goal.returns
unfolding can_be
returns c = search rules
