-- The rules of records and structs, numbers 60 to 83 of document 01: 0 where all hold, else the number of the first that does not.
-- They hold for any type sheet and any symbol width.
-- Assumes nothing.
use Rattle.std.specs.Prelude.{ℕ, ◌%◌, max, Bool, true, false, not, cond, List, [], ◌∷◌, map, get_or, ltb, eqb}
use Rattle.codec.specs.Codec.{among}
use Rattle.layout.specs.Layout.{Fields, RecordL, StructL}
use Rattle.fields.specs.Sheet.{id_of, off_of, end_of, is_padding, past_base, member_align}
use Rattle.fields.specs.Field.{fault_if, differs, field_numbers, field_fault}
use Rattle.plain_tiling.specs.Tile.{Span, sorted, walk}

-- the first of two verdicts that is a refusal
abbrev pub first : ℕ → ℕ → ℕ
first a b = cond (eqb a 0) b a

-- what refuses a layout that was read
abbrev pub rule_numbers : List ℕ
rule_numbers = 60 ∷ 61 ∷ 62 ∷ 63 ∷ 64 ∷ 81 ∷ 82 ∷ 83 ∷ field_numbers

-- ---- one sequence of fields

-- what the rules see of a record or a struct: the rtype (0 in a struct), the base size or the size, and its entries' first eleven bytes
pub record Seq : Type 0 where
  pub rtype : ℕ
  pub base : ℕ
  pub entries : List (List ℕ)

-- a struct, or a record whose rtype is judged
abbrev pub judged : ℕ → List (List ℕ) → Seq
judged base es = record { rtype = 0; base = base; entries = es }

-- the ids seen so far, with this entry's unless it is padding
abbrev pub noted : List ℕ → List ℕ → List ℕ → List ℕ
noted sheet e ids = cond (is_padding sheet e) ids (id_of e ∷ ids)

-- the spans of the entries on one side of the base
unfoldable pub spans : Bool → ℕ → Bool → List (List ℕ) → List Span
spans isRecord base ext [] = []
spans isRecord base ext (e ∷ es) =
    cond (differs ext (past_base isRecord base e)) (spans isRecord base ext es) ((off_of e, end_of e) ∷ spans isRecord base ext es)

-- 81 and 82: the base entries tile 0 to base
unfoldable pub base_fault : Bool → ℕ → List (List ℕ) → ℕ
base_fault isRecord base es = walk 81 (λ c. cond (eqb c base) 0 82) 0 (sorted (spans isRecord base false es))

-- 83: the extensions go on from the base
unfoldable pub ext_fault : Bool → ℕ → List (List ℕ) → ℕ
ext_fault isRecord base es = walk 83 (λ c. 0) base (sorted (spans isRecord base true es))

-- 81, 82, then 83
unfoldable pub tiling_fault : Bool → ℕ → List (List ℕ) → ℕ
tiling_fault isRecord base es = first (base_fault isRecord base es) (ext_fault isRecord base es)

-- the largest alignment in a struct, at least 1
unfoldable pub largest : List ℕ → ℕ → List (List ℕ) → ℕ
largest sheet a [] = a
largest sheet a (e ∷ es) = largest sheet (max a (member_align sheet e)) es

unfoldable pub struct_align : List ℕ → List (List ℕ) → ℕ
struct_align sheet es = largest sheet 1 es

-- `labels` is the number of label defs, `aligns` has the alignment of each struct
module _ (sheet : List ℕ) (width labels : ℕ) (aligns : List ℕ) where
  -- 71 to 80, field by field
  unfoldable pub fields_fault : Bool → ℕ → List ℕ → List (List ℕ) → ℕ
  fields_fault isRecord base ids [] = 0
  fields_fault isRecord base ids (e ∷ es) =
      first (field_fault sheet width labels aligns isRecord base (among (id_of e) ids) e) (fields_fault isRecord base (noted sheet e ids) es)

  -- the fields one by one, then 81 to 83
  unfoldable pub seq_fault : Bool → Seq → ℕ
  seq_fault isRecord q = first (fields_fault isRecord q.base [] q.entries) (tiling_fault isRecord q.base q.entries)

  -- 60: the size is no multiple of the alignment
  unfoldable pub struct_fault : Seq → ℕ
  struct_fault q = fault_if (not (eqb (q.base % struct_align sheet q.entries) 0)) 60 (seq_fault false q)

  -- 61: rtype twice; 62: its low byte is 4E; 63: base below header; 64: base not of 8
  unfoldable pub record_fault : Bool → Seq → ℕ
  record_fault twice q =
      fault_if twice 61
      (fault_if (eqb (q.rtype % 256) 78) 62
      (fault_if (ltb q.base (get_or sheet 518 0)) 63
      (fault_if (not (eqb (q.base % 8) 0)) 64 (seq_fault true q))))

  -- in table order
  unfoldable pub structs_fault : List Seq → ℕ
  structs_fault [] = 0
  structs_fault (q ∷ qs) = first (struct_fault q) (structs_fault qs)

  -- the same, after records of the rtypes `seen`
  unfoldable pub records_fault : List ℕ → List Seq → ℕ
  records_fault seen [] = 0
  records_fault seen (q ∷ qs) = first (record_fault (among q.rtype seen) q) (records_fault (q.rtype ∷ seen) qs)

-- the alignment of each struct
abbrev pub aligns_of : List ℕ → List Seq → List ℕ
aligns_of sheet structs = map (λ q. struct_align sheet q.entries) structs

-- structs first, then records
unfoldable pub seqs_fault : List ℕ → ℕ → List Seq → List Seq → ℕ → ℕ
seqs_fault sheet width structs records labels =
    first (structs_fault sheet width labels (aligns_of sheet structs) structs) (records_fault sheet width labels (aligns_of sheet structs) [] records)

-- ---- the records and structs of a layout

abbrev pub seq_of : ℕ → ℕ → Fields → Seq
seq_of rtype base f = record { rtype = rtype; base = base; entries = map (λ e. e.head) f.entries }

abbrev pub struct_seq : StructL → Seq
struct_seq s = seq_of 0 s.size s.fields

abbrev pub record_seq : RecordL → Seq
record_seq r = seq_of r.rtype r.base r.fields
