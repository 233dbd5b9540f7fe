-- A row, or a section. Assumes nothing.
use Rattle.item_rules.proofs.walk.item_at.Goals as goal

pub row_item-requires : goal.row_item-requires
row_item-requires c = rw c.if-in_rows.true at c.requires

pub returns-then-in_rows : goal.returns-then-in_rows
returns-then-in_rows c = rw c.if-in_rows.true c.row_item.ensures

pub section_item-requires : goal.section_item-requires
section_item-requires c = rw c.if-in_rows.false at c.requires

pub returns : goal.returns
returns c = rw c.if-in_rows.false c.section_item.ensures
