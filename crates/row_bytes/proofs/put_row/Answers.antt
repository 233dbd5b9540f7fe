-- It cannot stand, there is no room, or it is stored.
-- Assumes nothing.
use mathlib.Core.Path.{sym, ◌∙◌}
use borrow.Author.Tests.{not-true, not-false}
use Rattle.put.specs.OutputLaws.{wrote-length}
use Rattle.row_bytes.specs.RowLaws.{standing, row-refused, row_room, row-short, row_written}
use borrow.Author.Rules.{rules}
use Rattle.row_bytes.proofs.put_row.Goals as goal

pub returns-then-not-stands : goal.returns-then-not-stands
returns-then-not-stands c =
    let args = c.args in
    row-refused args.width args.table.now args.text.now args.r args.at args.out.now (sym c.stands.ensures ∙ c.if-not-stands.true)

pub returns-then-not-has_room : goal.returns-then-not-has_room
returns-then-not-has_room c =
    let args = c.args in
    let e = sym c.stands.ensures ∙ c.if-not-stands.false in
    row-short args.width args.table.now args.text.now args.r e (rw (c.more_of-more.ensures, c.number_at.ensures) at (sym c.has_room.ensures ∙ c.if-not-has_room.true))

pub store_row-requires : goal.store_row-requires
store_row-requires c =
    let args = c.args in
    let e = sym c.stands.ensures ∙ c.if-not-stands.false in record { standing = standing args.width args.table.now args.text.now args.r e; room_for = row_room args.width args.table.now args.text.now args.r e (rw (c.more_of-more.ensures, c.number_at.ensures) at (sym c.has_room.ensures ∙ c.if-not-has_room.false)) }

pub shape_of-out : goal.shape_of-out
shape_of-out c = wrote-length c.store_row.ensures

pub returns : goal.returns
returns c =
    let args = c.args in
    row_written args.width args.table.now args.text.now args.r (sym c.stands.ensures ∙ c.if-not-stands.false) c.store_row.ensures
