-- The count, the entries, the names.
-- Assumes nothing.
use native.Mathlib.Omega.{arith}
use mathlib.Core.Path.{refl}
use Rattle.rows_check.specs.SectionLaws.{fields-is}
use Rattle.put.specs.OutputLaws.{left-start, left_step, left_stored, left-room, left-all, left-rest}
use Rattle.writer.specs.Write.{printed_part}
use Rattle.writer.proofs.parts.put_fields.Goals as goal

pub put_parts-b-requires : goal.put_parts-b-requires
unfolding printed_part
put_parts-b-requires c =
    let args = c.args in
    let l = left_stored (left-start c.requires.room_for) _ (fields-is args.rows.now args.text.now args.q args.n) c.put_little-a.ensures in
    record { n_in_bounds = omega arith; texts_inside = record { spans = λ f. absurd (f refl) }; room_for = left-room l _ refl }

pub put_parts-requires : goal.put_parts-requires
unfolding printed_part
put_parts-requires c =
    let args = c.args in
    let l = left_stored (left-start c.requires.room_for) _ (fields-is args.rows.now args.text.now args.q args.n) c.put_little-a.ensures in
    record { n_in_bounds = omega arith; texts_inside = record { spans = λ f. c.requires.spans }; room_for = left-all (left_step l refl c.put_parts-b.ensures) }

pub returns : goal.returns
unfolding printed_part
returns c =
    let args = c.args in
    let l = left_stored (left-start c.requires.room_for) _ (fields-is args.rows.now args.text.now args.q args.n) c.put_little-a.ensures in
    left-rest (left_step l refl c.put_parts-b.ensures) c.put_parts.ensures
