-- What the public functions answer of an entry. Assumes nothing.
use Rattle.std.specs.Prelude.{ℕ, ◌<◌, ◌≡◌, Bool, List, cond, eqb, Option, Some, None}
use Rattle.fields.specs.Sheet.{id_of, off_of, end_of, is_padding, past_base, member_align}
use Rattle.fields.specs.Field.{differs}
use Rattle.fields.specs.declared.Extent.{Extent}
use Rattle.fields.specs.declared.Class.{Class}

-- where it stands, seen from the side `ext`
pub record ExtentIs (isRecord : Bool) (base : ℕ) (ext : Bool) (e : List ℕ) (r : Extent) : Type 0 where
  pub other : r.other ≡ differs ext (past_base isRecord base e)
  pub off : r.off ≡ off_of e
  pub end : r.end ≡ end_of e
  pub off-low : r.off < 65536
  pub end_low : r.end < 131072

-- its id, and what the sheet says of it
pub record ClassIs (sheet e : List ℕ) (r : Class) : Type 0 where
  pub id : r.id ≡ id_of e
  pub padding : r.padding ≡ is_padding sheet e
  pub align : r.align ≡ member_align sheet e
