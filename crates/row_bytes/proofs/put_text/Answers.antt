-- The text, then NULs.
-- Assumes nothing.
use Rattle.columns_check.specs.FilledLaws.{filled_is}
use Rattle.put.specs.OutputLaws.{left-start, left_stored, left-last}
use borrow.Author.Rules.{rules}
use Rattle.row_bytes.proofs.put_text.Goals as goal

pub returns : goal.returns
returns c = left-last (left_stored (left-start c.requires.room_for) _ (filled_is c.args.width c.args.part.now) c.put_bytes-a.ensures) c.put_zeros.ensures
