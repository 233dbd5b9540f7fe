-- The rules of one field, numbers 71 to 80 of document 01: 0 where all hold, else the number of the first that does not.
-- Assumes nothing.
use Rattle.std.specs.Prelude.{ℕ, ◌%◌, Bool, not, ◌&&◌, cond, List, [], ◌∷◌, length, get_or, leb, ltb, eqb}
use Rattle.fields.specs.Sheet.{size_of, def_of, off_of, end_of, is_padding, is_struct, is_symbol, is_decimal, names_label, is_extension, past_base, align_of}

-- the number n where the rule is broken, else what the later rules give
abbrev pub fault_if : Bool → ℕ → ℕ → ℕ
fault_if broken n later = cond broken n later

-- a bool differs from another
abbrev pub differs : Bool → Bool → Bool
differs a b = cond a (not b) b

-- 71: the id of an entry that is no padding came before
unfoldable pub breaks71 : List ℕ → Bool → List ℕ → Bool
breaks71 sheet seen e = not (is_padding sheet e) && seen

-- 72: a struct in a struct
unfoldable pub breaks72 : List ℕ → Bool → List ℕ → Bool
breaks72 sheet isRecord e = is_struct sheet e && not isRecord

-- 73: a def index past the structs, or past the label defs
unfoldable pub breaks73 : List ℕ → ℕ → ℕ → List ℕ → Bool
breaks73 sheet structs labels e = cond (is_struct sheet e) (leb structs (def_of e)) (names_label sheet e && leb labels (def_of e))

-- 74: the offset is no multiple of the alignment
unfoldable pub breaks74 : List ℕ → List ℕ → List ℕ → Bool
breaks74 sheet aligns e = ltb 1 (align_of sheet aligns e) && not (eqb (off_of e % align_of sheet aligns e) 0)

-- 76: a decimal whose scale is not -9
unfoldable pub breaks76 : List ℕ → List ℕ → Bool
breaks76 sheet e = is_decimal sheet e && not (eqb (get_or e 10 0) 247)

-- 77: a symbol that is not as wide as the stream's
unfoldable pub breaks77 : List ℕ → ℕ → List ℕ → Bool
breaks77 sheet width e = is_symbol sheet e && not (eqb (size_of e) width)

-- 79: of an entry that is no padding, mark and place differ
unfoldable pub breaks79 : List ℕ → Bool → ℕ → List ℕ → Bool
breaks79 sheet isRecord base e = not (is_padding sheet e) && differs (is_extension sheet e) (past_base isRecord base e)

-- 80: a base entry ends past the base
unfoldable pub breaks80 : Bool → ℕ → List ℕ → Bool
breaks80 isRecord base e = not (past_base isRecord base e) && ltb base (end_of e)

-- what refuses a field
abbrev pub field_numbers : List ℕ
field_numbers = 71 ∷ 72 ∷ 73 ∷ 74 ∷ 75 ∷ 76 ∷ 77 ∷ 78 ∷ 79 ∷ 80 ∷ []

-- of one entry, in order: `aligns` has the alignment of each struct, `labels` is the number of label defs, `base` the size of the
-- struct or the base size of the record, and `seen` says that the id came before; 75: size 0; 78: offset + size over 65535
module _ (sheet : List ℕ) (width labels : ℕ) (aligns : List ℕ) (isRecord : Bool) (base : ℕ) where
  unfoldable pub field_fault : Bool → List ℕ → ℕ
  field_fault seen e =
      fault_if (breaks71 sheet seen e) 71
      (fault_if (breaks72 sheet isRecord e) 72
      (fault_if (breaks73 sheet (length aligns) labels e) 73
      (fault_if (breaks74 sheet aligns e) 74
      (fault_if (eqb (size_of e) 0) 75
      (fault_if (breaks76 sheet e) 76
      (fault_if (breaks77 sheet width e) 77
      (fault_if (ltb 65535 (end_of e)) 78
      (fault_if (breaks79 sheet isRecord base e) 79
      (fault_if (breaks80 isRecord base e) 80
      0)))))))))
