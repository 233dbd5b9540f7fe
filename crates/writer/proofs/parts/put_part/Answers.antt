-- An entry, a name or a label, by the kind.
-- Assumes nothing.
use native.Mathlib.Omega.{arith}
use borrow.Author.Tests.{eq-eqb, ne_eqb}
use Rattle.writer.specs.Write.{printed_part}
use Rattle.put.specs.OutputLaws.{wrote-is}
use Rattle.writer.proofs.parts.put_part.Goals as goal

pub put_entry-requires : goal.put_entry-requires
unfolding printed_part
put_entry-requires c = rw c.entry_of.ensures (simp (eq-eqb _ _ c.if-kind-eq-FIELD.true) at c.requires.room_for)

pub returns-then-kind-eq-FIELD : goal.returns-then-kind-eq-FIELD
unfolding printed_part
returns-then-kind-eq-FIELD c = wrote-is c.put_entry.ensures (rw c.entry_of.ensures (simp (eq-eqb _ _ c.if-kind-eq-FIELD.true)))

pub put_name-requires : goal.put_name-requires
unfolding printed_part
put_name-requires c =
    record { q_in_bounds = c.requires.q_in_bounds; text_in_bounds = c.requires.texts_inside.spans c.if-kind-eq-FIELD.false c.args.q (omega arith) (omega arith); room_for = simp (ne_eqb _ _ c.if-kind-eq-FIELD.false, eq-eqb _ _ c.if-kind-eq-FIELD_NAME.true) at c.requires.room_for }

pub returns-then-kind-eq-FIELD_NAME : goal.returns-then-kind-eq-FIELD_NAME
unfolding printed_part
returns-then-kind-eq-FIELD_NAME c = wrote-is c.put_name.ensures (simp (ne_eqb _ _ c.if-kind-eq-FIELD.false, eq-eqb _ _ c.if-kind-eq-FIELD_NAME.true))

pub put_label-requires : goal.put_label-requires
unfolding printed_part
put_label-requires c =
    record { q_in_bounds = c.requires.q_in_bounds; text_in_bounds = c.requires.texts_inside.spans c.if-kind-eq-FIELD.false c.args.q (omega arith) (omega arith); room_for = simp (ne_eqb _ _ c.if-kind-eq-FIELD.false, ne_eqb _ _ c.if-kind-eq-FIELD_NAME.false) at c.requires.room_for }

pub returns : goal.returns
unfolding printed_part
returns c = wrote-is c.put_label.ensures (simp (ne_eqb _ _ c.if-kind-eq-FIELD.false, ne_eqb _ _ c.if-kind-eq-FIELD_NAME.false))
