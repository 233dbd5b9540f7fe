-- The length, the lists, the count of the mappings and their rows, one after the other.
-- Assumes nothing.
use native.Mathlib.Omega.{arith}
use mathlib.Core.Path.{refl}
use Rattle.put.specs.OutputLaws.{wrote-length, left-start, left-room, left_step, left_stored, left-all, left-rest}
use Rattle.block_writer.specs.PutLaws.{symbology-bytes, lists-few, names-ready}
use Rattle.block_writer.proofs.columns.put_symbology.Goals as goal

pub put_length-a-requires : goal.put_length-a-requires
put_length-a-requires c = left-room (left-start c.requires.room_for) _ (symbology-bytes c.requires.names_ready c.args.has)

pub put_list-b-requires : goal.put_list-b-requires
put_list-b-requires c =
    let few = lists-few c.requires.names_ready in
    let a = left_step (left-start c.requires.room_for) (symbology-bytes c.requires.names_ready c.args.has) c.put_length-a.ensures in
    record { rows_ready = names-ready c.requires.names_ready _ _ (omega arith); room_for = left-room a _ refl }

pub put_list-c-requires : goal.put_list-c-requires
put_list-c-requires c =
    let few = lists-few c.requires.names_ready in
    let a = left_step (left-start c.requires.room_for) (symbology-bytes c.requires.names_ready c.args.has) c.put_length-a.ensures in
    let b = left_step a refl c.put_list-b.ensures in
    record { rows_ready = names-ready c.requires.names_ready _ _ (omega arith); room_for = left-room b _ refl }

pub overflow_add-two : goal.overflow_add-two
overflow_add-two c = omega (arith, lists-few c.requires.names_ready)

pub put_list-d-requires : goal.put_list-d-requires
put_list-d-requires c =
    let few = lists-few c.requires.names_ready in
    let a = left_step (left-start c.requires.room_for) (symbology-bytes c.requires.names_ready c.args.has) c.put_length-a.ensures in
    let b = left_step a refl c.put_list-b.ensures in
    let d = left_step b refl c.put_list-c.ensures in
    record { rows_ready = names-ready c.requires.names_ready _ _ (omega arith); room_for = left-room d _ refl }

pub overflow_add-lists : goal.overflow_add-lists
overflow_add-lists c = omega (arith, lists-few c.requires.names_ready)

pub overflow_sub-count : goal.overflow_sub-count
overflow_sub-count c = omega (arith, lists-few c.requires.names_ready)

pub put_rows-requires : goal.put_rows-requires
put_rows-requires c =
    let few = lists-few c.requires.names_ready in
    let a = left_step (left-start c.requires.room_for) (symbology-bytes c.requires.names_ready c.args.has) c.put_length-a.ensures in
    let b = left_step a refl c.put_list-b.ensures in
    let d = left_step b refl c.put_list-c.ensures in
    let e = left_step d refl c.put_list-d.ensures in
    record { rows_ready = names-ready c.requires.names_ready _ _ (omega arith); room_for = left-all (left_stored e _ refl c.put_little-e.ensures) }

pub returns : goal.returns
returns c =
    let a = left_step (left-start c.requires.room_for) (symbology-bytes c.requires.names_ready c.args.has) c.put_length-a.ensures in
    let b = left_step a refl c.put_list-b.ensures in
    let d = left_step b refl c.put_list-c.ensures in
    let e = left_step d refl c.put_list-d.ensures in
    left-rest (left_stored e _ refl c.put_little-e.ensures) c.put_rows.ensures

pub shape_of-out : goal.shape_of-out
shape_of-out c = wrote-length (returns c)
