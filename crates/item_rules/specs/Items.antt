-- Records and structs where they stand, one by one: in the sections of a layout, or in rows that are in their places.
-- Assumes nothing.
use Rattle.std.specs.Prelude.{ℕ, zero, suc, ◌+◌, ◌*◌, ◌≤◌, ◌<◌, ◌≡◌, Bool, true, false, cond, List, [], ◌∷◌, length, take, Option, Some, None}
use Rattle.numbers.specs.Numbers.{le16}
use Rattle.layout.specs.LayoutOf.{D}
use Rattle.layout.specs.PlaceLaws.{count_at}
use Rattle.rows_check.specs.Tree.{cell, next_section}
use Rattle.item_rules.specs.declared.Place.{Place}
use Rattle.item_rules.specs.declared.Task.{Task}
use Rattle.item_rules.specs.declared.Item.{Item}
use Rattle.item_rules.specs.Rules.{Seq, first, structs_fault, records_fault, aligns_of}
use Rattle.item_rules.specs.Entries.{entries_of, InSlice}

-- what a record has, or else a struct
abbrev pub column : Bool → ℕ → ℕ → ℕ
column isRecord r s = cond isRecord r s

abbrev pub kind_of : Bool → ℕ
kind_of isRecord = column isRecord 10 13

-- what an item is to the rules
abbrev pub item_seq : List ℕ → List ℕ → Item → Seq
item_seq l t i = record { rtype = i.rtype; base = i.base; entries = entries_of l t i.entries }

-- ---- sections

-- the place of the name in the section at `at`, and of the count of fields
abbrev pub name_in : Bool → ℕ → ℕ
name_in isRecord at = at + column isRecord 16 4

abbrev pub count_in : Bool → List ℕ → ℕ → ℕ
count_in isRecord s at = count_at s (name_in isRecord at)

-- the record or struct of the section at `at`
unfoldable pub section_item : Bool → List ℕ → ℕ → Item
section_item isRecord s at = record {
  rtype = cond isRecord (le16 s (at + 2)) 0;
  base = le16 s (at + column isRecord 6 2);
  entries = record { rows = false; step = D; at = count_in isRecord s at + 2; count = le16 s (count_in isRecord s at) };
}

-- the section and its fields lie within s
pub record SectionInside (isRecord : Bool) (s : List ℕ) (at : ℕ) : Type 0 where
  pub fields : count_in isRecord s at + 2 + D * le16 s (count_in isRecord s at) ≤ at + le16 s at
  pub inside : at + le16 s at ≤ length s

-- ---- rows

-- how many fields the record or struct of row q has
abbrev pub fields_in : Bool → List ℕ → ℕ → ℕ
fields_in isRecord t q = cell t q (column isRecord 6 4)

-- the record or struct of row q
unfoldable pub row_item : Bool → List ℕ → ℕ → Item
row_item isRecord t q = record {
  rtype = cond isRecord (cell t q 3) 0;
  base = cell t q (column isRecord 5 3);
  entries = record { rows = true; step = 9; at = 9 * q + 9; count = fields_in isRecord t q };
}

-- its rows and those of its fields and names lie within t, and its numbers fit
pub record RowInside (isRecord : Bool) (t : List ℕ) (q : ℕ) : Type 0 where
  pub rtype : cond isRecord (cell t q 3) 0 < 65536
  pub base : cell t q (column isRecord 5 3) < 65536
  pub inside : 9 * next_section (kind_of isRecord) t q ≤ length t

-- ---- both

module _ (isRecord : Bool) (l t : List ℕ) where
  -- the record or struct at a place of the rows, or of the layout's bytes, and the place after it
  abbrev pub item_at : Bool → ℕ → Item
  item_at rows at = cond rows (row_item isRecord t at) (section_item isRecord l at)

  abbrev pub next_at : Bool → ℕ → ℕ
  next_at rows at = cond rows (next_section (kind_of isRecord) t at) (at + le16 l at)

  abbrev pub InsideAt : Bool → ℕ → Type 0
  InsideAt true at = RowInside isRecord t at
  InsideAt false at = SectionInside isRecord l at

  -- n of them from a place on
  abbrev pub seqs_by : Bool → ℕ → ℕ → List Seq
  seqs_by rows at zero = []
  seqs_by rows at (suc n) = item_seq l t (item_at rows at) ∷ seqs_by rows (next_at rows at) n

  abbrev pub Stand : Bool → ℕ → ℕ → Type 0
  Stand rows at zero = Unit {0}
  Stand rows at (suc n) = InsideAt rows at × Stand rows (next_at rows at) n

  -- the place after n of them
  abbrev pub end_by : Bool → ℕ → ℕ → ℕ
  end_by rows at zero = at
  end_by rows at (suc n) = end_by rows (next_at rows at) n

unfoldable pub seqs_from : List ℕ → List ℕ → Bool → Place → List Seq
seqs_from l t isRecord p = seqs_by isRecord l t p.rows p.at p.left

unfoldable pub end_from : List ℕ → List ℕ → Bool → Place → ℕ
end_from l t isRecord p = end_by isRecord l t p.rows p.at p.left

-- all that is to come lies within its slice
unfoldable pub Good : List ℕ → List ℕ → Bool → Place → Type 0
Good l t isRecord p = Stand isRecord l t p.rows p.at p.left

-- one item, and what comes after it
pub record Step (l t : List ℕ) (isRecord : Bool) (p : Place) (i : Item) (p' : Place) : Type 0 where
  pub seqs : seqs_from l t isRecord p ≡ item_seq l t i ∷ seqs_from l t isRecord p'
  pub good : Good l t isRecord p'
  pub room : InSlice l t i.entries
  pub base : i.base < 65536

pub data Stepped (l t : List ℕ) (isRecord : Bool) (p : Place) : Option (Item × Place) → Type 0 where
  found : {i : Item} {p' : Place} → Step l t isRecord p i p' → Stepped l t isRecord p (Some (i, p'))
  ended : seqs_from l t isRecord p ≡ [] → Stepped l t isRecord p None

-- the structs and the records, all within their slices
pub record Ready (l t : List ℕ) (structs records : Place) : Type 0 where
  pub structs-good : Good l t false structs
  pub records-good : Good l t true records

-- the alignments of the first 65,536 structs: no def index names a later one
unfoldable pub first_aligns : List ℕ → List Seq → List ℕ
first_aligns sheet structs = take 65536 (aligns_of sheet structs)

-- with these, the number that structs and records give, structs first
unfoldable pub fault_of : List ℕ → ℕ → ℕ → List Seq → List Seq → ℕ
fault_of sheet width labels structs records =
    first (structs_fault sheet width labels (first_aligns sheet structs) structs) (records_fault sheet width labels (first_aligns sheet structs) [] records)

abbrev pub task_fault : List ℕ → List ℕ → List ℕ → Task → ℕ
task_fault sheet l t k = fault_of sheet k.how.width k.how.labels (seqs_from l t false k.structs) (seqs_from l t true k.records)
