-- The count stands in another number of the row for each kind.
-- Assumes nothing.
use borrow.Author.Tests.{eq-eqb, ne_eqb}
use Rattle.rows_check.specs.Tree.{count_of}
use Rattle.rows_check.proofs.cells.count_of.Goals as goal

pub returns-then-kind-eq-RECORD : goal.returns-then-kind-eq-RECORD
unfolding count_of
returns-then-kind-eq-RECORD c = (rw (← c.cell_of.ensures.0) (simp (eq-eqb _ _ c.if-kind-eq-RECORD.true)), c.cell_of.ensures.1)

pub returns-then-kind-eq-STRUCT : goal.returns-then-kind-eq-STRUCT
unfolding count_of
returns-then-kind-eq-STRUCT c = (rw (← c.cell_of-then-kind-eq-STRUCT.ensures.0) (simp (ne_eqb _ _ c.if-kind-eq-RECORD.false, eq-eqb _ _ c.if-kind-eq-STRUCT.true)), c.cell_of-then-kind-eq-STRUCT.ensures.1)

pub returns : goal.returns
unfolding count_of
returns c = (rw (← c.cell_of-2.ensures.0) (simp (ne_eqb _ _ c.if-kind-eq-RECORD.false, ne_eqb _ _ c.if-kind-eq-STRUCT.false)), c.cell_of-2.ensures.1)
