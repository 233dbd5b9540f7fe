-- The version, then three groups.
-- Assumes nothing.
use Prim.Native.Nat.{ℕ}
use mathlib.Core.Path.{◌≡◌, refl}
use mathlib.Core.List.{List, ◌++◌}
use Rattle.codec.specs.Codec.{little}
use Rattle.rows_check.specs.Tree.{kinds, skip}
use Rattle.rows_check.specs.Check.{printed}
use Rattle.rows_check.specs.Sections.{printed_group}
use Rattle.rows_check.specs.SectionLaws.{layout_is}
use Rattle.put.specs.OutputLaws.{room-front, wrote-filled, left-start, left_step, left_stored, left-room, left-all, left-rest}
use Rattle.writer.proofs.sections.put_layout.Goals as goal

layout-parts : (version : ℕ) (rows text : List ℕ) {r s l : ℕ} → (r ≡ kinds rows 10) × ((s ≡ kinds rows 13) × (l ≡ kinds rows 14))
    → printed version rows text ≡ little 2 version ++ (printed_group 10 rows text 0 r ++ (printed_group 13 rows text (skip 10 rows 0 r) s ++ printed_group 14 rows text (skip 13 rows (skip 10 rows 0 r) s) l))
layout-parts version rows text e = rw (e.0, e.1.0, e.1.1) (layout_is version rows text)

pub put_group-g-requires : goal.put_group-g-requires
put_group-g-requires c =
    let args = c.args in
    let l = left_stored (left-start (room-front c.requires.text_in_bounds)) _ (layout-parts args.version args.rows.now args.text.now c.requires.counts) c.put_little-a.ensures in
    record { sections = rw c.requires.counts.0 c.requires.sections; room_for = left-room l _ refl }

pub put_group-h-requires : goal.put_group-h-requires
put_group-h-requires c =
    let args = c.args in
    let l = left_stored (left-start (room-front c.requires.text_in_bounds)) _ (layout-parts args.version args.rows.now args.text.now c.requires.counts) c.put_little-a.ensures in
    let m = left_step l refl c.put_group-g.ensures.wrote in
    rw c.put_group-g.ensures.row record { sections = rw (c.requires.counts.0, c.requires.counts.1.0) c.requires.struct_sections; room_for = left-room m _ refl }

pub put_group-i-requires : goal.put_group-i-requires
put_group-i-requires c =
    let args = c.args in
    let l = left_stored (left-start (room-front c.requires.text_in_bounds)) _ (layout-parts args.version args.rows.now args.text.now c.requires.counts) c.put_little-a.ensures in
    let m = left_step l refl c.put_group-g.ensures.wrote in
    let n = left_step m refl (rw c.put_group-g.ensures.row at c.put_group-h.ensures.wrote) in
    rw (c.put_group-h.ensures.row, c.put_group-g.ensures.row) record { sections = rw (c.requires.counts.0, c.requires.counts.1.0, c.requires.counts.1.1) c.requires.label_sections; room_for = left-all n }

pub returns : goal.returns
returns c =
    let args = c.args in
    let l = left_stored (left-start (room-front c.requires.text_in_bounds)) _ (layout-parts args.version args.rows.now args.text.now c.requires.counts) c.put_little-a.ensures in
    let m = left_step l refl c.put_group-g.ensures.wrote in
    let n = left_step m refl (rw c.put_group-g.ensures.row at c.put_group-h.ensures.wrote) in
    wrote-filled (left-rest n (rw (c.put_group-h.ensures.row, c.put_group-g.ensures.row) at c.put_group-i.ensures.wrote))
