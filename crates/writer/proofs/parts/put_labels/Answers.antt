-- The count, the labels.
-- Assumes nothing.
use mathlib.Core.Path.{refl}
use Rattle.put.specs.OutputLaws.{left-start, left_stored, left-all, left-rest}
use Rattle.writer.specs.Write.{printed_part}
use Rattle.writer.proofs.parts.put_labels.Goals as goal

pub put_parts-requires : goal.put_parts-requires
unfolding printed_part
put_parts-requires c =
    record { n_in_bounds = c.requires.n_in_bounds; texts_inside = record { spans = λ f. c.requires.spans }; room_for = left-all (left_stored (left-start c.requires.room_for) _ refl c.put_little-a.ensures) }

pub returns : goal.returns
unfolding printed_part
returns c = left-rest (left_stored (left-start c.requires.room_for) _ refl c.put_little-a.ensures) c.put_parts.ensures
