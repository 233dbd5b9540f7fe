-- By the kind: a record's, a struct's, or neither.
-- Assumes nothing.
use borrow.Author.Tests.{ne_eqb}
use Rattle.writer.proofs.cells.has_fields.Goals as goal

pub returns-then-kind-eq-RECORD : goal.returns-then-kind-eq-RECORD
returns-then-kind-eq-RECORD c = rw c.if-kind-eq-RECORD.true

pub returns-else-kind-eq-RECORD : goal.returns-else-kind-eq-RECORD
returns-else-kind-eq-RECORD c = simp (ne_eqb _ 10 c.if-kind-eq-RECORD.false)
