-- The count, then the rows.
-- Assumes nothing.
use mathlib.Core.Path.{refl}
use Rattle.put.specs.OutputLaws.{left-start, left_stored, left-all, left-rest}
use Rattle.block_writer.proofs.columns.put_list.Goals as goal

pub put_rows-requires : goal.put_rows-requires
put_rows-requires c = record { rows_ready = c.requires.rows_ready; room_for = left-all (left_stored (left-start c.requires.room_for) _ refl c.put_little-a.ensures) }

pub returns : goal.returns
returns c = left-rest (left_stored (left-start c.requires.room_for) _ refl c.put_little-a.ensures) c.put_rows.ensures
