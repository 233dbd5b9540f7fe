-- One cell for each kind.
-- Assumes nothing.
use mathlib.Core.Path.{sym, ◌∙◌}
use borrow.Author.Tests.{ne_eqb}
use Rattle.rows_check.specs.SectionLaws.{count-is}
use Rattle.writer.proofs.cells.count_of.Goals as goal

pub returns-then-kind-eq-RECORD : goal.returns-then-kind-eq-RECORD
returns-then-kind-eq-RECORD c =
    (rw c.if-kind-eq-RECORD.true (c.cell_of.ensures.0 ∙ sym (count-is 10 c.args.rows.now c.args.q)), c.cell_of.ensures.1)

pub returns-then-kind-eq-STRUCT : goal.returns-then-kind-eq-STRUCT
returns-then-kind-eq-STRUCT c =
    (rw c.if-kind-eq-STRUCT.true (c.cell_of-then-kind-eq-STRUCT.ensures.0 ∙ sym (count-is 13 c.args.rows.now c.args.q)), c.cell_of-then-kind-eq-STRUCT.ensures.1)

pub returns : goal.returns
returns c =
    (c.cell_of-2.ensures.0 ∙ sym (count-is c.args.kind c.args.rows.now c.args.q ∙ simp (ne_eqb c.args.kind 10 c.if-kind-eq-RECORD.false, ne_eqb c.args.kind 13 c.if-kind-eq-STRUCT.false)), c.cell_of-2.ensures.1)
