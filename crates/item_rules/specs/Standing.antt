-- Whether records and structs lie where they are looked for, and the number that they then give.
-- Assumes nothing.
use Rattle.std.specs.Prelude.{ℕ, zero, suc, ◌+◌, ◌*◌, ◌≡◌, Bool, true, false, ◌&&◌, cond, List, length, ltb, leb, Option, Some, None}
use Rattle.numbers.specs.Numbers.{le16}
use Rattle.layout.specs.LayoutOf.{D}
use Rattle.rows_check.specs.Tree.{cell, next_section}
use Rattle.item_rules.specs.declared.Place.{Place}
use Rattle.item_rules.specs.Rules.{seqs_fault}
use Rattle.item_rules.specs.Items.{column, kind_of, count_in, next_at, seqs_from, end_from}

-- the section at `at` and its fields lie within s
unfoldable pub section_lies : Bool → List ℕ → ℕ → Bool
section_lies isRecord s at =
    leb (count_in isRecord s at + 2 + D * le16 s (count_in isRecord s at)) (at + le16 s at) && leb (at + le16 s at) (length s)

-- the rows of row q's record or struct lie within t, and its numbers fit
unfoldable pub row_lies : Bool → List ℕ → ℕ → Bool
row_lies isRecord t q =
    ltb (cond isRecord (cell t q 3) 0) 65536 && (ltb (cell t q (column isRecord 5 3)) 65536 && leb (9 * next_section (kind_of isRecord) t q) (length t))

module _ (isRecord : Bool) (l t : List ℕ) where
  abbrev pub lies_at : Bool → ℕ → Bool
  lies_at rows at = cond rows (row_lies isRecord t at) (section_lies isRecord l at)

  -- n of them from a place on
  abbrev pub stand_by : Bool → ℕ → ℕ → Bool
  stand_by rows at zero = true
  stand_by rows at (suc n) = lies_at rows at && stand_by rows (next_at isRecord l t rows at) n

unfoldable pub stands : List ℕ → List ℕ → Bool → Place → Bool
stands l t isRecord p = stand_by isRecord l t p.rows p.at p.left

-- what is told of them: where the last of them ends, or nothing where one does not lie there
abbrev pub Reached : List ℕ → List ℕ → Bool → Place → Option ℕ → Type 0
Reached l t isRecord p (Some at) = (stands l t isRecord p ≡ true) × (at ≡ end_from l t isRecord p)
Reached l t isRecord p None = stands l t isRecord p ≡ false

-- ---- in rows

-- n records from the first row on, and k structs after them
abbrev pub table_records : ℕ → Place
table_records n = record { rows = true; at = 0; left = n }

abbrev pub table_structs : List ℕ → List ℕ → ℕ → ℕ → Place
table_structs l t n k = record { rows = true; at = end_from l t true (table_records n); left = k }

unfoldable pub table_fault : List ℕ → ℕ → ℕ → List ℕ → List ℕ → ℕ → ℕ → ℕ
table_fault sheet width labels l t n k =
    cond (stands l t true (table_records n))
    (cond (stands l t false (table_structs l t n k)) (seqs_fault sheet width (seqs_from l t false (table_structs l t n k)) (seqs_from l t true (table_records n)) labels) 0)
    0

-- ---- in a layout's bytes

-- the records, and the structs after their own count
abbrev pub section_records : List ℕ → Place
section_records l = record { rows = false; at = 4; left = le16 l 2 }

abbrev pub section_structs : List ℕ → List ℕ → Place
section_structs l t = record { rows = false; at = end_from l t true (section_records l) + 2; left = le16 l (end_from l t true (section_records l)) }

-- the count of label defs is after the structs
unfoldable pub counted_fault : List ℕ → ℕ → List ℕ → List ℕ → Place → Place → ℕ
counted_fault sheet width l t structs records =
    cond (stands l t false structs) (seqs_fault sheet width (seqs_from l t false structs) (seqs_from l t true records) (le16 l (end_from l t false structs))) 0

unfoldable pub sections_fault : List ℕ → ℕ → List ℕ → List ℕ → ℕ
sections_fault sheet width l t =
    cond (stands l t true (section_records l))
    (cond (leb (end_from l t true (section_records l) + 2) (length l)) (counted_fault sheet width l t (section_structs l t) (section_records l)) 0)
    0

-- ---- either

abbrev pub items_fault : List ℕ → ℕ → ℕ → List ℕ → List ℕ → Bool → ℕ → ℕ → ℕ
items_fault sheet width labels l t rows n k = cond rows (table_fault sheet width labels l t n k) (sections_fault sheet width l t)
