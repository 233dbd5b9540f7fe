-- A layout was read before, so its rows fit its reader's promise. Assumes nothing.
use borrow.Author.Rules.{rules}
use Rattle.block.proofs.parts.put_layout.Goals as goal

pub returns-then-has_layout : goal.returns-then-has_layout
returns-then-has_layout c = rw c.if-has_layout.true c.read_layout_rows.ensures.leaves

pub returns-else-has_layout : goal.returns-else-has_layout
returns-else-has_layout c = rw c.if-has_layout.false
