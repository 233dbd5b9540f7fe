-- The kinds of rows.
-- Assumes nothing.
use mathlib.Core.Path.{ap, ◌∙◌}
use borrow.Author.Tests.{eq-eqb, ne_eqb, le-leb, lt-leb}
use Rattle.columns_check.specs.Tree.{text_of}
use Rattle.codec.specs.Telling.{passed}
use Rattle.columns_check.specs.RowFaults.{row_fault}
use Rattle.columns_check.proofs.WalkLaws.{part-is}
use Rattle.columns_check.proofs.texts.row_fault.Goals as goal

pub returns-then-width-eq0 : goal.returns-then-width-eq0
unfolding passed row_fault text_of
returns-then-width-eq0 c = rw (c.refused.ensures, ← c.number_at-kind.ensures) (simp (le-leb _ _ c.if-kind-le2.true, eq-eqb _ _ c.if-width-eq0.true))

pub returns-then-kind-le2 : goal.returns-then-kind-le2
unfolding row_fault text_of
returns-then-kind-le2 c = c.text_fault.ensures ∙ ap passed (rw (part-is _ _ _, ← c.number_at-start.ensures, ← c.number_at.ensures, ← c.number_at-kind.ensures) (simp (le-leb _ _ c.if-kind-le2.true, ne_eqb _ _ c.if-width-eq0.false)))

pub returns-then-kind-eq3 : goal.returns-then-kind-eq3
unfolding row_fault text_of
returns-then-kind-eq3 c = c.text_fault-then-kind-eq3.ensures ∙ ap passed (rw (part-is _ _ _, ← c.number_at-start.ensures, ← c.number_at.ensures, ← c.number_at-kind.ensures) (simp (lt-leb _ _ c.if-kind-le2.false, eq-eqb _ _ c.if-kind-eq3.true)))

pub returns : goal.returns
unfolding row_fault text_of
returns c = c.text_fault-2.ensures ∙ ap passed (rw (part-is _ _ _, ← c.number_at-start.ensures, ← c.number_at.ensures, ← c.number_at-kind.ensures) (simp (lt-leb _ _ c.if-kind-le2.false, ne_eqb _ _ c.if-kind-eq3.false)))
