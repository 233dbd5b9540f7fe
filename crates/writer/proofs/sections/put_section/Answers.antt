-- The part after the two length bytes is lent to the body; its length is then stored before it.
-- Assumes nothing.
use Prim.Native.Nat.{◌+◌, ◌≤◌}
use native.Mathlib.Omega.{arith}
use mathlib.Core.Path.{sym, ap}
use lib.ListN.{length}
use Rattle.codec.specs.Codec.{little}
use Rattle.rows_check.specs.SectionLaws.{section-is}
use Rattle.put.specs.OutputLaws.{wrote-is, lent_length, lent_wrote, stored_before}
use Rattle.writer.proofs.sections.put_section.Goals as goal

pub slice_bounds-put_body-count : goal.slice_bounds-put_body-count
slice_bounds-put_body-count c = omega (arith, c.requires.room_for.fits, ap length (section-is c.args.kind c.args.rows.now c.args.text.now c.args.q))

pub slice_bounds-put_body-start : goal.slice_bounds-put_body-start
slice_bounds-put_body-start c = omega (arith, c.requires.room_for.fits, ap length (section-is c.args.kind c.args.rows.now c.args.text.now c.args.q))

pub put_body-n-requires : goal.put_body-n-requires
put_body-n-requires c =
    let args = c.args in
    record { q_in_bounds = c.requires.q_in_bounds; section_rows = c.requires.section_rows; room = omega (arith, c.requires.room_for.fits, ap length (section-is args.kind args.rows.now args.text.now args.q), lent_length (args.at + 2) args.out.now) }

pub returns : goal.returns
returns c =
    let args = c.args in
    let body = c.put_body-n.ensures in
    let e = section-is args.kind args.rows.now args.text.now args.q in
    let h : args.at + 2 ≤ length args.out.now = omega (arith, c.requires.room_for.fits, ap length e) in
    wrote-is (stored_before {xs = little 2 (2 + c.put_body-n.result)} (lent_wrote (args.at + 2) args.out.now h body) c.put_little.ensures) (rw body.count (sym e))
