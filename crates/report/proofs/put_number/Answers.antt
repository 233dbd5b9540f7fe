-- The word, the refusal number and the rest of the line, one after the other; nothing where the number is 0.
-- Assumes nothing.
use mathlib.Core.Path.{◌∙◌}
use Rattle.put.specs.OutputLaws.{left-start, left-done}
use Rattle.report.proofs.PartLaws.{parts-start, part_room, part-wrote, part_stored, parts-done, refused-parts, none_of, some_of}
use Rattle.report.proofs.put_number.Goals as goal

pub returns-then-n-eq0 : goal.returns-then-n-eq0
returns-then-n-eq0 c = left-done (left-start c.requires) (none_of _ _ c.if-n-eq0.true)

pub put_decimal-a-requires : goal.put_decimal-a-requires
put_decimal-a-requires c = part_room (part_stored (parts-start _ (some_of _ _ c.if-n-eq0.false ∙ refused-parts _ _) c.requires) c.put_bytes-a.ensures)

pub put_line-requires : goal.put_line-requires
put_line-requires c = part_room (part-wrote (part_stored (parts-start _ (some_of _ _ c.if-n-eq0.false ∙ refused-parts _ _) c.requires) c.put_bytes-a.ensures) c.put_decimal-a.ensures)

pub returns : goal.returns
returns c = parts-done (part-wrote (part-wrote (part_stored (parts-start _ (some_of _ _ c.if-n-eq0.false ∙ refused-parts _ _) c.requires) c.put_bytes-a.ensures) c.put_decimal-a.ensures) c.put_line.ensures)
