-- By the kind: three numbers and the hash, the size, or nothing.
-- Assumes nothing.
use borrow.Author.Tests.{ne_eqb}
use Rattle.put.specs.OutputLaws.{stored_wrote, wrote-is, left-start, left-done}
use Rattle.writer.proofs.sections.put_numbers.Goals as goal

pub put_head-requires : goal.put_head-requires
put_head-requires c = record { q_in_bounds = c.requires.q_in_bounds; room_for = rw c.if-kind-eq-RECORD.true at c.requires.room_for }

pub returns-then-kind-eq-RECORD : goal.returns-then-kind-eq-RECORD
returns-then-kind-eq-RECORD c = wrote-is c.put_head.ensures (rw c.if-kind-eq-RECORD.true)

pub returns-then-kind-eq-STRUCT : goal.returns-then-kind-eq-STRUCT
returns-then-kind-eq-STRUCT c = wrote-is (stored_wrote (rw c.if-kind-eq-STRUCT.true at c.requires.room_for) (rw c.cell_of.ensures.0 at c.put_little.ensures)) (rw c.if-kind-eq-STRUCT.true)

pub returns : goal.returns
returns c =
    let args = c.args in
    left-done (left-start c.requires.room_for) (simp (ne_eqb args.kind 10 c.if-kind-eq-RECORD.false, ne_eqb args.kind 13 c.if-kind-eq-STRUCT.false))
