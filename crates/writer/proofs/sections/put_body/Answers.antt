-- Numbers, the name, and fields or labels.
-- Assumes nothing.
use native.Mathlib.Omega.{arith}
use mathlib.Core.Path.{sym, ap}
use lib.ListN.{length, length-append}
use Rattle.rows_check.specs.SectionLaws.{body_is}
use Rattle.put.specs.OutputLaws.{wrote_then, wrote-is, wrote-filled}
use Rattle.writer.proofs.sections.put_body.Goals as goal

pub put_numbers-a-requires : goal.put_numbers-a-requires
put_numbers-a-requires c =
    record { q_in_bounds = c.requires.q_in_bounds; room_for = record { fits = omega (arith, c.requires.room, simp length-append at (ap length (body_is c.args.kind c.args.rows.now c.args.text.now c.args.q))) } }

pub put_name-b-requires : goal.put_name-b-requires
put_name-b-requires c =
    record { q_in_bounds = c.requires.q_in_bounds; text_in_bounds = c.requires.section_rows.own; room_for = record { fits = omega (arith, c.requires.room, simp length-append at (ap length (body_is c.args.kind c.args.rows.now c.args.text.now c.args.q))) } }

pub put_contents-requires : goal.put_contents-requires
put_contents-requires c =
    record { q_in_bounds = c.requires.q_in_bounds; section_rows = c.requires.section_rows; room_for = record { fits = omega (arith, c.requires.room, simp length-append at (ap length (body_is c.args.kind c.args.rows.now c.args.text.now c.args.q))) } }

pub returns : goal.returns
returns c =
    wrote-filled (wrote-is (wrote_then c.put_numbers-a.ensures (wrote_then c.put_name-b.ensures c.put_contents.ensures)) (sym (body_is c.args.kind c.args.rows.now c.args.text.now c.args.q)))
