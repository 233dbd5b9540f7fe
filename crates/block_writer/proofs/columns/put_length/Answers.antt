-- Four bytes, or none.
-- Assumes nothing.
use Rattle.put.specs.OutputLaws.{left-start, left-done, left-last}
use Rattle.block_writer.proofs.columns.put_length.Goals as goal

pub returns-then-has : goal.returns-then-has
returns-then-has c = left-last (left-start c.requires) (rw c.if-has.true c.put_little.ensures)

pub returns : goal.returns
returns c = left-done (left-start c.requires) (rw c.if-has.false)
