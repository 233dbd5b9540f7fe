-- An entry's row: the numbers at its places. Assumes nothing.
use borrow.Author.Rules.{rules}
use Rattle.layout.proofs.rows.entry_row.Goals as goal

pub returns : goal.returns
returns c = rw (c.pair.ensures, c.pair-2.ensures, c.pair-3.ensures, c.wide32.ensures.0, c.wide32-2.ensures.0, c.pair-4.ensures, c.wide32-3.ensures.0)
