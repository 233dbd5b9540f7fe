-- The rows with a section's names: by the section's kind.
-- Assumes nothing.
use borrow.Author.Tests.{eq-eqb, ne_eqb}
use Rattle.rows_check.specs.Check.{name_kind}
use Rattle.rows_check.proofs.cells.name_kind.Goals as goal

pub returns-then-kind-eq-RECORD : goal.returns-then-kind-eq-RECORD
unfolding name_kind
returns-then-kind-eq-RECORD c = simp (eq-eqb _ _ c.if-kind-eq-RECORD.true)

pub returns-then-kind-eq-STRUCT : goal.returns-then-kind-eq-STRUCT
unfolding name_kind
returns-then-kind-eq-STRUCT c = simp (ne_eqb _ _ c.if-kind-eq-RECORD.false, eq-eqb _ _ c.if-kind-eq-STRUCT.true)

pub returns : goal.returns
unfolding name_kind
returns c = simp (ne_eqb _ _ c.if-kind-eq-RECORD.false, ne_eqb _ _ c.if-kind-eq-STRUCT.false)
