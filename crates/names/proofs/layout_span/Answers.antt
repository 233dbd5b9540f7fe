-- A row of the table has the span that its numbers say; past the table there is none.
-- Assumes nothing.
use mathlib.Core.Path.{refl, ap, ◌∙◌}
use native.Mathlib.Omega.{arith}
use lib.ListN.{get_or}
use Rattle.table.specs.Columns.{row_cell}
use Rattle.names.specs.Names.{item_text}
use Rattle.names.proofs.NameLaws.{row-past, row-there}
use borrow.Author.Rules.{rules}
use Rattle.names.proofs.layout_span.Goals as goal

pub returns-then-index-rows : goal.returns-then-index-rows
returns-then-index-rows c =
    let args = c.args in
    (rw c.item_text.ensures at c.text_span.ensures)
    ∙ row-there item_text _ _ (row_cell 9 args.rows.now args.index) args.index c.if-index-rows.true (ap (λ i. get_or args.rows.now i 0) (omega arith)) refl refl

pub returns : goal.returns
returns c =
    let args = c.args in
    c.no_text.ensures ∙ row-past item_text _ _ (row_cell 9 args.rows.now args.index) args.index c.if-index-rows.false
