-- A record's row: the numbers at its places, and those that were read. Assumes nothing.
use Rattle.layout.proofs.Laws.{nine10}
use borrow.Author.Rules.{rules}
use Rattle.layout.proofs.rows.record_row.Goals as goal

pub returns : goal.returns
returns c = nine10 c.args.s.now c.half.ensures.0 c.half-2.ensures.0 c.half-3.ensures.0 c.word.ensures c.word-2.ensures
