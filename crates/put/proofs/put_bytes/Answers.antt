-- Stored where there is room, in either way.
-- Assumes nothing.
use mathlib.Core.Path.{refl, sym, ◌∙◌}
use Rattle.put.specs.OutputLaws.{room-told, wrote_stored, stored_short}
use borrow.Author.Rules.{rules}
use Rattle.put.proofs.put_bytes.Goals as goal

pub store_each-requires : goal.store_each-requires
store_each-requires c = room-told (refl) (sym c.has_room.ensures ∙ c.if-has_room.true)

pub returns-then-src-ge-MANY : goal.returns-then-src-ge-MANY
returns-then-src-ge-MANY c = wrote_stored c.store_each.ensures

pub store_bytes-requires : goal.store_bytes-requires
store_bytes-requires c = room-told (refl) (sym c.has_room.ensures ∙ c.if-has_room.true)

pub returns-then-has_room : goal.returns-then-has_room
returns-then-has_room c = wrote_stored c.store_bytes.ensures

pub returns : goal.returns
returns c = stored_short (refl) (sym c.has_room.ensures ∙ c.if-has_room.false)
