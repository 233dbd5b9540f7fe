-- A field entry is its first eleven bytes: id, offset, size (u16 each), type, flags, def index (u16), scale. The type sheet is 520 numbers:
-- 0 to 255 the natural size of each type id or 0, 256 to 511 nonzero for a label user, then from 512 on the ids of struct, symbol, decimal
-- and padding, the weight of the extension bit, the def index that means no label def, the header size, and one that nobody looks at.
-- Assumes nothing.
use Rattle.std.specs.Prelude.{ℕ, ◌+◌, ◌*◌, ◌/◌, ◌%◌, Bool, not, ◌&&◌, cond, List, get_or, leb, eqb}
use Rattle.numbers.specs.Numbers.{le16}

-- ---- the parts of an entry

unfoldable pub id_of : List ℕ → ℕ
id_of e = le16 e 0

unfoldable pub off_of : List ℕ → ℕ
off_of e = le16 e 2

unfoldable pub size_of : List ℕ → ℕ
size_of e = le16 e 4

unfoldable pub type_of : List ℕ → ℕ
type_of e = get_or e 6 0

unfoldable pub def_of : List ℕ → ℕ
def_of e = le16 e 8

-- one past the last byte of the field
abbrev pub end_of : List ℕ → ℕ
end_of e = off_of e + size_of e

-- ---- what the sheet says of an entry

unfoldable pub is_struct : List ℕ → List ℕ → Bool
is_struct sheet e = eqb (type_of e) (get_or sheet 512 0)

unfoldable pub is_symbol : List ℕ → List ℕ → Bool
is_symbol sheet e = eqb (type_of e) (get_or sheet 513 0)

unfoldable pub is_decimal : List ℕ → List ℕ → Bool
is_decimal sheet e = eqb (type_of e) (get_or sheet 514 0)

unfoldable pub is_padding : List ℕ → List ℕ → Bool
is_padding sheet e = eqb (type_of e) (get_or sheet 515 0)

-- a label user that names a label def
unfoldable pub names_label : List ℕ → List ℕ → Bool
names_label sheet e = not (eqb (get_or sheet (256 + type_of e) 0) 0) && not (eqb (def_of e) (get_or sheet 517 0))

-- the extension bit of the flags, by its weight; weight 0 marks none
unfoldable pub is_extension : List ℕ → List ℕ → Bool
is_extension sheet e = eqb (get_or e 7 0 / get_or sheet 516 0 % 2) 1

-- a record's entry at or past the base is an extension by place
unfoldable pub past_base : Bool → ℕ → List ℕ → Bool
past_base isRecord base e = isRecord && leb base (off_of e)

-- ---- alignment; 0 counts as 1

-- of an entry inside a struct: 1 for padding and for a struct, the natural size for all else
unfoldable pub member_align : List ℕ → List ℕ → ℕ
member_align sheet e = cond (is_padding sheet e) 1 (cond (is_struct sheet e) 1 (get_or sheet (type_of e) 0))

-- of an entry, where `aligns` has the alignments of the structs
unfoldable pub align_of : List ℕ → List ℕ → List ℕ → ℕ
align_of sheet aligns e = cond (is_padding sheet e) 1 (cond (is_struct sheet e) (get_or aligns (def_of e) 0) (get_or sheet (type_of e) 0))
