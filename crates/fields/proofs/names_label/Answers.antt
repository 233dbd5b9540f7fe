-- By the first test. Assumes nothing.
use mathlib.Core.Path.{sym, ◌∙◌}
use borrow.Author.Tests.{eq-eqb, ne_eqb}
use Rattle.fields.specs.Sheet.{names_label}
use Rattle.fields.proofs.names_label.Goals as goal

pub returns-then-sheet-label-ne0 : goal.returns-then-sheet-label-ne0
unfolding names_label
returns-then-sheet-label-ne0 c = rw (c.wide16.ensures.0, c.def_of.ensures.0, ← c.type_of-label.ensures.0, ne_eqb _ 0 c.if-sheet-label-ne0.true)

pub returns-else-sheet-label-ne0 : goal.returns-else-sheet-label-ne0
unfolding names_label
returns-else-sheet-label-ne0 c = rw (← c.type_of-label.ensures.0, eq-eqb _ 0 c.if-sheet-label-ne0.false)
