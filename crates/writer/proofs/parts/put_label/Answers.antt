-- The code, then the name.
-- Assumes nothing.
use Rattle.wire.specs.Reader.{all_tests}
use Rattle.layout.specs.PrintLaws.{label-print}
use Rattle.rows_check.specs.Tree.{label_of}
use Rattle.put.specs.OutputLaws.{left-start, left_stored, left-all, left-rest}
use Rattle.writer.proofs.parts.put_label.Goals as goal

pub put_name-requires : goal.put_name-requires
put_name-requires c =
    let args = c.args in
    record { q_in_bounds = c.requires.q_in_bounds; text_in_bounds = c.requires.text_in_bounds; room_for = left-all (left_stored (left-start c.requires.room_for) _ (label-print all_tests (label_of args.rows.now args.text.now args.q)) (rw c.cell_of.ensures.0 at c.put_little-a.ensures)) }

pub returns : goal.returns
returns c =
    let args = c.args in
    left-rest (left_stored (left-start c.requires.room_for) _ (label-print all_tests (label_of args.rows.now args.text.now args.q)) (rw c.cell_of.ensures.0 at c.put_little-a.ensures)) c.put_name.ensures
