-- The word, the number and the line's end, one after the other.
-- Assumes nothing.
use Rattle.report.proofs.PartLaws.{parts-start, part_room, part-wrote, part_stored, parts-done, line-parts}
use Rattle.report.proofs.put_line.Goals as goal

pub put_decimal-a-requires : goal.put_decimal-a-requires
put_decimal-a-requires c = part_room (part_stored (parts-start _ (line-parts _ _) c.requires) c.put_bytes-a.ensures)

pub returns : goal.returns
returns c = parts-done (part_stored (part-wrote (part_stored (parts-start _ (line-parts _ _) c.requires) c.put_bytes-a.ensures) c.put_decimal-a.ensures) c.put_bytes.ensures)
