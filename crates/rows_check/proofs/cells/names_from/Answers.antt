-- The names come after the fields, and a label def has none.
-- Assumes nothing.
use native.Mathlib.Omega.{arith}
use borrow.Author.Tests.{eq-eqb, ne_eqb}
use Rattle.rows_check.specs.Tree.{names_from}
use Rattle.rows_check.proofs.cells.names_from.Goals as goal

pub returns-then-kind-eq-RECORD : goal.returns-then-kind-eq-RECORD
unfolding names_from
returns-then-kind-eq-RECORD c = (rw (← c.cell_of.ensures.0) (simp (eq-eqb _ _ c.if-kind-eq-RECORD.true)), (omega arith, omega arith))

pub returns-then-kind-eq-STRUCT : goal.returns-then-kind-eq-STRUCT
unfolding names_from
returns-then-kind-eq-STRUCT c = (rw (← c.cell_of-then-kind-eq-STRUCT.ensures.0) (simp (ne_eqb _ _ c.if-kind-eq-RECORD.false, eq-eqb _ _ c.if-kind-eq-STRUCT.true)), (omega arith, omega arith))

pub returns : goal.returns
unfolding names_from
returns c = (simp (ne_eqb _ _ c.if-kind-eq-RECORD.false, ne_eqb _ _ c.if-kind-eq-STRUCT.false), (omega arith, omega arith))
