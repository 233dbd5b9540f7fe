-- A row, or a section. Assumes nothing.
use Rattle.item_rules.proofs.walk.lies.Goals as goal

pub returns-then-in_rows : goal.returns-then-in_rows
returns-then-in_rows c = rw c.if-in_rows.true c.row_lies.ensures

pub returns : goal.returns
returns c = rw c.if-in_rows.false c.section_lies.ensures
