-- A layout's rows, as document 01's "Rows" has them: nine numbers each, in wire order. Assumes nothing.
use Rattle.std.specs.Prelude.{ℕ, ◌/◌, ◌%◌, List, [], ◌∷◌, ◌++◌, map, length, get_or}
use Rattle.numbers.specs.Numbers.{le16}
use Rattle.table.specs.Table.{all_rows}
use Rattle.wire.specs.Formats.{Name}
use Rattle.layout.specs.Layout.{Entry, Fields, RecordL, StructL, Label, LabelDef, Layout}

-- 11 field (id, offset, size, type, flags, def index, scale byte)
abbrev pub head_row : List ℕ → List ℕ
head_row e = 11 ∷ le16 e 0 ∷ le16 e 2 ∷ le16 e 4 ∷ get_or e 6 0 ∷ get_or e 7 0 ∷ le16 e 8 ∷ get_or e 10 0 ∷ 0 ∷ []

abbrev pub entry_row : Entry → List ℕ
entry_row f = head_row f.head

-- 12 field name (start, length)
abbrev pub row12 : ℕ → ℕ → List ℕ
row12 start len = 12 ∷ start ∷ len ∷ 0 ∷ 0 ∷ 0 ∷ 0 ∷ 0 ∷ 0 ∷ []

abbrev pub name_row : Name → List ℕ
name_row n = row12 n.start (length n.text)

abbrev pub field_rows : Fields → List (List ℕ)
field_rows f = map entry_row f.entries ++ map name_row f.names

-- 10 record (name start, length, rtype, schema, base, field count, hash low, hash high)
abbrev pub row10 : ℕ → ℕ → ℕ → ℕ → ℕ → ℕ → ℕ → List ℕ
row10 start len rtype schema base count hash = 10 ∷ start ∷ len ∷ rtype ∷ schema ∷ base ∷ count ∷ hash % 4294967296 ∷ hash / 4294967296 ∷ []

abbrev pub record_rows : RecordL → List (List ℕ)
record_rows r = row10 r.name.start (length r.name.text) r.rtype r.schema r.base (length r.fields.entries) r.hash ∷ field_rows r.fields

-- 13 struct (start, length, size, field count)
abbrev pub row13 : ℕ → ℕ → ℕ → ℕ → List ℕ
row13 start len size count = 13 ∷ start ∷ len ∷ size ∷ count ∷ 0 ∷ 0 ∷ 0 ∷ 0 ∷ []

abbrev pub struct_rows : StructL → List (List ℕ)
struct_rows s = row13 s.name.start (length s.name.text) s.size (length s.fields.entries) ∷ field_rows s.fields

-- 15 label (start, length, code)
abbrev pub row15 : ℕ → ℕ → ℕ → List ℕ
row15 start len code = 15 ∷ start ∷ len ∷ code ∷ 0 ∷ 0 ∷ 0 ∷ 0 ∷ 0 ∷ []

abbrev pub label_row : Label → List ℕ
label_row l = row15 l.name.start (length l.name.text) l.code

-- 14 label def (start, length, label count)
abbrev pub row14 : ℕ → ℕ → ℕ → List ℕ
row14 start len count = 14 ∷ start ∷ len ∷ count ∷ 0 ∷ 0 ∷ 0 ∷ 0 ∷ 0 ∷ []

abbrev pub label_def_rows : LabelDef → List (List ℕ)
label_def_rows d = row14 d.name.start (length d.name.text) (length d.labels) ∷ map label_row d.labels

unfoldable pub rows : Layout → List (List ℕ)
rows t = all_rows record_rows t.records ++ all_rows struct_rows t.structs ++ all_rows label_def_rows t.labels
