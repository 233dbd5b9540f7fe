-- A row of the columns has the span that its numbers say; past their height there is none.
-- Assumes nothing.
use mathlib.Core.Path.{ap, ◌∙◌}
use native.Mathlib.Omega.{arith}
use lib.ListN.{get_or}
use Rattle.table.specs.Columns.{cell}
use Rattle.names.specs.Names.{symbol_text}
use Rattle.names.proofs.NameLaws.{row-past, row-there}
use borrow.Author.Rules.{rules}
use Rattle.names.proofs.symbology_span.Goals as goal

pub returns-then-index-height : goal.returns-then-index-height
returns-then-index-height c =
    let args = c.args in
    (rw c.symbol_text.ensures at c.text_span.ensures)
    ∙ row-there symbol_text _ _ (cell 6 args.table.now args.index) args.index c.if-index-height.true (ap (λ i. get_or args.table.now i 0) (omega arith)) (ap (λ i. get_or args.table.now i 0) (omega arith)) (ap (λ i. get_or args.table.now i 0) (omega arith))

pub returns : goal.returns
returns c =
    let args = c.args in
    c.no_text.ensures ∙ row-past symbol_text _ _ (cell 6 args.table.now args.index) args.index c.if-index-height.false
