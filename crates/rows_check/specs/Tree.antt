-- The layout that rows of nine stand for: document 01's "Rows", read back. A name's text is a part of the text that is lent
-- with the rows; skipped bytes are zeros, and nothing is left over.
-- Assumes nothing.
use Rattle.std.specs.Prelude.{Bool, true, cond, ℕ, zero, suc, ◌+◌, ◌-◌, ◌*◌, ◌/◌, List, [], ◌∷◌, length, take, drop, get_or, replicate, eqb}
use Rattle.entry.specs.Entry.{row_bytes}
use Rattle.layout.specs.LayoutOf.{D}
use Rattle.wire.specs.Formats.{Name}
use Rattle.layout.specs.Layout.{Entry, Fields, RecordL, StructL, Label, LabelDef, Layout}

-- number j of row q
abbrev pub cell : List ℕ → ℕ → ℕ → ℕ
cell rows q j = get_or rows (9 * q + j) 0

abbrev pub row_count : List ℕ → ℕ
row_count rows = length rows / 9

-- k items, the first from row q, the one after it from row `next q`
unfoldable pub from : {A : Type 0} → (ℕ → ℕ) → (ℕ → A) → ℕ → ℕ → List A
from next f q zero = []
from next f q (suc k) = f q ∷ from next f (next q) k

abbrev pub after : ℕ → ℕ
after q = q + 1

-- the nine numbers of row q, and all rows
abbrev pub cells : List ℕ → ℕ → List ℕ
cells rows q =
    cell rows q 0 ∷ cell rows q 1 ∷ cell rows q 2 ∷ cell rows q 3 ∷ cell rows q 4 ∷ cell rows q 5 ∷ cell rows q 6 ∷ cell rows q 7 ∷ cell rows q 8 ∷ []

unfoldable pub rows_in : List ℕ → List (List ℕ)
rows_in rows = from after (cells rows) 0 (row_count rows)

-- ---- one row

abbrev pub name_of : List ℕ → List ℕ → ℕ → Name
name_of rows text q = record { start = cell rows q 1; text = take (cell rows q 2) (drop (cell rows q 1) text) }

-- the field row's entry: the writer puts zeros after its eleven bytes
abbrev pub entry_with_zeros : List ℕ → Entry
entry_with_zeros head = record { head = head; skipped = replicate (D - 11) 0 }

abbrev pub entry_of : List ℕ → ℕ → Entry
entry_of rows q = entry_with_zeros (row_bytes rows (9 * q))

abbrev pub label_of : List ℕ → List ℕ → ℕ → Label
label_of rows text q = record { code = cell rows q 3; name = name_of rows text q }

-- ---- the rows of a section

-- n entries from row q on, and the rows of their names after them
abbrev pub fields_of : List ℕ → List ℕ → ℕ → ℕ → Fields
fields_of rows text q n = record { entries = from after (entry_of rows) q n; names = from after (name_of rows text) (q + n) n }

abbrev pub record_of : List ℕ → List ℕ → ℕ → RecordL
record_of rows text q = record {
  rtype = cell rows q 3;
  schema = cell rows q 4;
  base = cell rows q 5;
  hash = cell rows q 7 + 4294967296 * cell rows q 8;
  name = name_of rows text q;
  fields = fields_of rows text (q + 1) (cell rows q 6);
  rest = [];
}

abbrev pub struct_of : List ℕ → List ℕ → ℕ → StructL
struct_of rows text q = record { size = cell rows q 3; name = name_of rows text q; fields = fields_of rows text (q + 1) (cell rows q 4); rest = [] }

abbrev pub label_def_of : List ℕ → List ℕ → ℕ → LabelDef
label_def_of rows text q = record { name = name_of rows text q; labels = from after (label_of rows text) (q + 1) (cell rows q 3); rest = [] }

-- by the kind of a section: 10 a record, 13 a struct, else a label def
abbrev pub by_kind : {A : Type 0} → ℕ → A → A → A → A
by_kind kind a b c = cond (eqb kind 10) a (cond (eqb kind 13) b c)

-- whether sections of that kind have fields, as records and structs do
abbrev pub has_fields : ℕ → Bool
has_fields kind = cond (eqb kind 10) true (eqb kind 13)

-- how many fields or labels the section at row q has, and the row of the first name among them
unfoldable pub count_of : ℕ → List ℕ → ℕ → ℕ
count_of kind rows q = by_kind kind (cell rows q 6) (cell rows q 4) (cell rows q 3)

unfoldable pub names_from : ℕ → List ℕ → ℕ → ℕ
names_from kind rows q = by_kind kind (q + 1 + cell rows q 6) (q + 1 + cell rows q 4) (q + 1)

-- the row after the section at row q
abbrev pub next_section : ℕ → List ℕ → ℕ → ℕ
next_section kind rows q = names_from kind rows q + count_of kind rows q

-- the row after k sections from row q
unfoldable pub skip : ℕ → List ℕ → ℕ → ℕ → ℕ
skip kind rows q zero = q
skip kind rows q (suc k) = skip kind rows (next_section kind rows q) k

-- ---- all rows

-- how many of n rows from q are of that kind
unfoldable pub count_kind : ℕ → List ℕ → ℕ → ℕ → ℕ
count_kind kind rows q zero = 0
count_kind kind rows q (suc n) = cond (eqb (cell rows q 0) kind) 1 0 + count_kind kind rows (q + 1) n

abbrev pub kinds : List ℕ → ℕ → ℕ
kinds rows kind = count_kind kind rows 0 (row_count rows)

-- the rows of the first struct and of the first label def
abbrev pub structs_from : List ℕ → ℕ
structs_from rows = skip 10 rows 0 (kinds rows 10)

abbrev pub labels_from : List ℕ → ℕ
labels_from rows = skip 13 rows (structs_from rows) (kinds rows 13)

unfoldable pub tree_of : ℕ → List ℕ → List ℕ → Layout
tree_of version rows text = record {
  version = version;
  records = from (next_section 10 rows) (record_of rows text) 0 (kinds rows 10);
  structs = from (next_section 13 rows) (struct_of rows text) (structs_from rows) (kinds rows 13);
  labels = from (next_section 14 rows) (label_def_of rows text) (labels_from rows) (kinds rows 14);
  rest = [];
}
