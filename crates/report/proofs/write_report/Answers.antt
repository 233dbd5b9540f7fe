-- Part by part, in the order of the report.
-- Assumes nothing.
use Rattle.put.specs.OutputLaws.{wrote-filled}
use Rattle.report.proofs.PartLaws.{parts-start, part_room, part-wrote, part_stored, parts-done, report-parts, report-room}
use native.Mathlib.Omega.{arith}
use Rattle.report.proofs.write_report.Goals as goal

pub put_line-at-requires : goal.put_line-at-requires
put_line-at-requires c = part_room (part_stored (parts-start _ (report-parts c.args.counts.now) (report-room _ _ (omega arith))) c.put_bytes-at.ensures)

pub put_refused-at-requires : goal.put_refused-at-requires
put_refused-at-requires c = part_room (part-wrote (part_stored (parts-start _ (report-parts c.args.counts.now) (report-room _ _ (omega arith))) c.put_bytes-at.ensures) c.put_line-at.ensures)

pub put_some-at-requires : goal.put_some-at-requires
put_some-at-requires c = part_room (part-wrote (part-wrote (part_stored (parts-start _ (report-parts c.args.counts.now) (report-room _ _ (omega arith))) c.put_bytes-at.ensures) c.put_line-at.ensures) c.put_refused-at.ensures)

pub put_line-at-requires-2 : goal.put_line-at-requires-2
put_line-at-requires-2 c = part_room (part-wrote (part-wrote (part-wrote (part_stored (parts-start _ (report-parts c.args.counts.now) (report-room _ _ (omega arith))) c.put_bytes-at.ensures) c.put_line-at.ensures) c.put_refused-at.ensures) c.put_some-at.ensures)

pub put_line-requires : goal.put_line-requires
put_line-requires c = part_room (part-wrote (part-wrote (part-wrote (part-wrote (part_stored (parts-start _ (report-parts c.args.counts.now) (report-room _ _ (omega arith))) c.put_bytes-at.ensures) c.put_line-at.ensures) c.put_refused-at.ensures) c.put_some-at.ensures) c.put_line-at-2.ensures)

pub returns : goal.returns
returns c = wrote-filled (parts-done (part-wrote (part-wrote (part-wrote (part-wrote (part-wrote (part_stored (parts-start _ (report-parts c.args.counts.now) (report-room _ _ (omega arith))) c.put_bytes-at.ensures) c.put_line-at.ensures) c.put_refused-at.ensures) c.put_some-at.ensures) c.put_line-at-2.ensures) c.put_line.ensures))
