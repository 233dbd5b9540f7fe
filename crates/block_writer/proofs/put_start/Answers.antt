-- Each part has room in what is left, and the last leaves nothing.
-- Assumes nothing.
use mathlib.Core.Path.{refl}
use Rattle.put.specs.OutputLaws.{wrote-length, left-start, left-room, left_step, left_stored, left-all, left-rest}
use Rattle.block_writer.specs.PutLaws.{dataset-found, header-whole}
use Rattle.block_writer.proofs.StartLaws.{start-fields, start-parts, layout-ready, names-given}
use Rattle.block_writer.proofs.put_start.Goals as goal

pub put_prelude-a-requires : goal.put_prelude-a-requires
put_prelude-a-requires c = left-room (left-start c.requires.room_for) _ (start-parts c.requires.sizes refl)

pub dataset-requires : goal.dataset-requires
dataset-requires c = dataset-found c.args.version c.args.fields.now c.args.text.now (start-fields c.requires.sizes.ready).0

pub put_layout-c-requires : goal.put_layout-c-requires
put_layout-c-requires c =
    let args = c.args in
    let a = left_step (left-start c.requires.room_for) (start-parts c.requires.sizes refl) c.put_prelude-a.ensures in
    let d = left_stored a _ refl (header-whole args.version args.fields.now args.text.now (start-fields c.requires.sizes.ready).1 c.dataset.ensures c.put_header-b.ensures) in
    record { layout_ready = layout-ready c.requires.sizes refl; room_for = left-room d _ refl }

pub put_symbology-requires : goal.put_symbology-requires
put_symbology-requires c =
    let args = c.args in
    let a = left_step (left-start c.requires.room_for) (start-parts c.requires.sizes refl) c.put_prelude-a.ensures in
    let d = left_stored a _ refl (header-whole args.version args.fields.now args.text.now (start-fields c.requires.sizes.ready).1 c.dataset.ensures c.put_header-b.ensures) in
    let e = left_step d refl c.put_layout-c.ensures in
    record { names_ready = names-given c.requires.sizes; room_for = left-all e }

pub returns : goal.returns
returns c =
    let args = c.args in
    let a = left_step (left-start c.requires.room_for) (start-parts c.requires.sizes refl) c.put_prelude-a.ensures in
    let d = left_stored a _ refl (header-whole args.version args.fields.now args.text.now (start-fields c.requires.sizes.ready).1 c.dataset.ensures c.put_header-b.ensures) in
    let e = left_step d refl c.put_layout-c.ensures in
    left-rest e c.put_symbology.ensures

pub shape_of-out : goal.shape_of-out
shape_of-out c = wrote-length (returns c)
