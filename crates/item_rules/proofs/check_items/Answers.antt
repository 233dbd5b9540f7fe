-- In rows, or in a layout's bytes. Assumes nothing.
use Rattle.item_rules.proofs.check_items.Goals as goal

pub returns-then-in_rows : goal.returns-then-in_rows
returns-then-in_rows c = rw c.if-in_rows.true c.table_rules.ensures

pub returns : goal.returns
returns c = rw c.if-in_rows.false c.section_rules.ensures
