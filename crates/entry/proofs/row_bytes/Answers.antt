-- The seven numbers of the row, which are all there or are read one by one.
-- Assumes nothing.
use mathlib.Core.Path.{◌∙◌}
use Rattle.entry.specs.Entry.{row_bytes}
use borrow.Author.Rules.{rules}
use Rattle.entry.proofs.row_bytes.Goals as goal

pub returns-then-from-ge8 : goal.returns-then-from-ge8
unfolding row_bytes
returns-then-from-ge8 c = c.cut.ensures

pub returns : goal.returns
unfolding row_bytes
returns c = c.cut-2.ensures ∙ rw (c.number.ensures, c.number-2.ensures, c.number-3.ensures, c.number-4.ensures, c.number-5.ensures, c.number-6.ensures, c.number-7.ensures)
