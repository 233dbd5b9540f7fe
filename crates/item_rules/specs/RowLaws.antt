-- Rows that are well formed: their records and structs stand where they are looked for, and they give what those of the
-- layout give that the rows stand for. Assumes nothing.
use Prim.Native.Nat.{ℕ, zero, suc, ◌+◌, ◌-◌, ◌*◌, ◌<◌}
use native.Mathlib.Omega.{arith}
use Rattle.std.specs.Prelude.{◌≡◌, Bool}
use Rattle.std.proofs.Math.Path.{refl, sym, ap, ap₂}
use Rattle.std.proofs.Common.{◌∙◌}
use Rattle.std.proofs.Math.Bool.{true, false}
use mathlib.Core.List.{List, [], ◌∷◌, map}
use Rattle.entry.specs.Entry.{row_bytes}
use Rattle.entry.specs.EntryLaws.{row-bytes-small}
use Rattle.fields.specs.Sheet.{def_of}
use Rattle.fields.specs.FieldLaws.{def_small}
use Rattle.layout.specs.Layout.{Entry}
use Rattle.layout.specs.NameCountLaws.{AllOf}
use Rattle.rows_check.specs.Tree.{cell, from, after, entry_of, record_of, struct_of, next_section, skip, kinds, structs_from, tree_of}
use Rattle.rows_check.specs.CheckLaws.{InPlace, Places, places_next, Formed, record_fits, struct_fits}
use Rattle.rows_check.specs.SectionLaws.{count-is, names-after, skip-none, skip-next}
use Rattle.rows_check.specs.TreeLaws.{from-none, from_next, tree-records, tree-structs}
use Rattle.item_rules.specs.declared.Place.{Place}
use Rattle.item_rules.specs.Rules.{first, Seq, aligns_of, seqs_fault, struct_seq, record_seq}
use Rattle.item_rules.specs.RuleLaws.{seq-eq}
use Rattle.item_rules.specs.AlignLaws.{DefsBelow, structs-cut, records-cut}
use Rattle.item_rules.specs.Entries.{entry_at, entries_at, entries_of}
use Rattle.item_rules.specs.Items.{kind_of, item_seq, fields_in, row_item, RowInside, seqs_by, Stand, end_by, seqs_from, end_from, Good, Ready, first_aligns, fault_of}
use Rattle.item_rules.specs.Standing.{table_fault}
use Rattle.item_rules.specs.StandingLaws.{good-stands}

-- the row after a record or a struct is past its own, its fields' and their names'
pub next-is : (isRecord : Bool) (t : List ℕ) (q : ℕ) → next_section (kind_of isRecord) t q ≡ q + 1 + fields_in isRecord t q + fields_in isRecord t q
next-is true t q = ap₂ ◌+◌ (names-after 10 t q refl ∙ ap (λ (n : ℕ). q + 1 + n) (count-is 10 t q)) (count-is 10 t q)
next-is false t q = ap₂ ◌+◌ (names-after 13 t q refl ∙ ap (λ (n : ℕ). q + 1 + n) (count-is 13 t q)) (count-is 13 t q)

module _ (l t : List ℕ) where
  -- ---- the records and structs of the layout

  row-entries : (n j : ℕ) → map (λ (e : Entry). e.head) (from after (entry_of t) j n) ≡ entries_at l t true 9 (9 * j) n
  unfolding entries_at entry_at
  row-entries zero j = ap (map (λ (e : Entry). e.head)) (from-none after (entry_of t) j)
  row-entries (suc n) j =
      let nine : 9 * (j + 1) ≡ 9 * j + 9 = omega arith in
      ap (map (λ (e : Entry). e.head)) (from_next after (entry_of t) j n)
      ∙ ap (λ (es : List (List ℕ)). row_bytes t (9 * j) ∷ es) (row-entries n (j + 1) ∙ ap (λ (a : ℕ). entries_at l t true 9 a n) nine)

  entries-of : (n q : ℕ) → entries_at l t true 9 (9 * q + 9) n ≡ map (λ (e : Entry). e.head) (from after (entry_of t) (q + 1) n)
  entries-of n q =
      let nine : 9 * (q + 1) ≡ 9 * q + 9 = omega arith in
      sym (row-entries n (q + 1) ∙ ap (λ (a : ℕ). entries_at l t true 9 a n) nine)

  module _ (text : List ℕ) where
    one_record : (q : ℕ) → item_seq l t (row_item true t q) ≡ record_seq (record_of t text q)
    unfolding row_item entries_of
    one_record q = seq-eq refl refl (entries-of (cell t q 6) q)

    one_struct : (q : ℕ) → item_seq l t (row_item false t q) ≡ struct_seq (struct_of t text q)
    unfolding row_item entries_of
    one_struct q = seq-eq refl refl (entries-of (cell t q 4) q)

  seqs-are : {A : Type 0} (isRecord : Bool) (part : ℕ → A) (f : A → Seq) → ((q : ℕ) → item_seq l t (row_item isRecord t q) ≡ f (part q))
      → (k q : ℕ) → seqs_by isRecord l t true q k ≡ map f (from (next_section (kind_of isRecord) t) part q k)
  seqs-are isRecord part f one zero q = sym (ap (map f) (from-none (next_section (kind_of isRecord) t) part q))
  seqs-are isRecord part f one (suc k) q =
      ap₂ ◌∷◌ (one q) (seqs-are isRecord part f one k (next_section (kind_of isRecord) t q))
      ∙ sym (ap (map f) (from_next (next_section (kind_of isRecord) t) part q k))

  -- ---- their def indices

  entries_below : (d a n : ℕ) → AllOf (λ (e : List ℕ). def_of e < 65536) (entries_at l t true d a n)
  unfolding entries_at entry_at
  entries_below d a zero = tt
  entries_below d a (suc n) = (def_small (row_bytes t a) (row-bytes-small t a), entries_below d (a + d) n)

  defs_below : (isRecord : Bool) (k q : ℕ) → DefsBelow 65536 (seqs_by isRecord l t true q k)
  unfolding row_item entries_of
  defs_below isRecord zero q = tt
  defs_below isRecord (suc k) q = (entries_below 9 (9 * q + 9) (fields_in isRecord t q), defs_below isRecord k (next_section (kind_of isRecord) t q))

  -- ---- where they stand

  stand : (isRecord : Bool) → ((q : ℕ) → InPlace (kind_of isRecord) t q → RowInside isRecord t q) → (k q : ℕ) → Places (kind_of isRecord) t q k → Stand isRecord l t true q k
  stand isRecord one zero q p = tt
  stand isRecord one (suc k) q p =
      let (a, b) = places_next (kind_of isRecord) t q k p in
      (one q a, stand isRecord one k (next_section (kind_of isRecord) t q) b)

  abbrev structs_place : Place
  structs_place = record { rows = true; at = structs_from t; left = kinds t 13 }

  abbrev records_place : Place
  records_place = record { rows = true; at = 0; left = kinds t 10 }

  end-rows : (n q : ℕ) → end_by true l t true q n ≡ skip 10 t q n
  end-rows zero q = sym (skip-none 10 t q 0 (omega arith))
  end-rows (suc n) q =
      let less : n ≡ suc n - 1 = omega arith in
      end-rows n (next_section 10 t q) ∙ ap (skip 10 t (next_section 10 t q)) less ∙ sym (skip-next 10 t q (suc n) (omega arith))

  records-end : end_from l t true records_place ≡ structs_from t
  unfolding end_from
  records-end = end-rows (kinds t 10) 0

  module _ (text : List ℕ) (w : Formed t text) where
    record_inside_lem : (q : ℕ) → InPlace 10 t q → RowInside true t q
    record_inside_lem q p =
        let (a, b) = record_fits t text w q p in
        record { rtype = a; base = b; inside = omega (arith, p.inside, w.nines) }

    struct_inside_lem : (q : ℕ) → InPlace 13 t q → RowInside false t q
    struct_inside_lem q p = record { rtype = omega arith; base = struct_fits t text w q p; inside = omega (arith, p.inside, w.nines) }

    rows-ready : Ready l t structs_place records_place
    unfolding Good
    rows-ready = record {
      structs-good = stand false struct_inside_lem (kinds t 13) (structs_from t) w.structs;
      records-good = stand true record_inside_lem (kinds t 10) 0 w.records;
    }

  -- the first 65,536 alignments do for them
  pub rows_cut : (sheet : List ℕ) (width labels a n b k : ℕ)
      → fault_of sheet width labels (seqs_from l t false (record { rows = true; at = a; left = n })) (seqs_from l t true (record { rows = true; at = b; left = k }))
      ≡ seqs_fault sheet width (seqs_from l t false (record { rows = true; at = a; left = n })) (seqs_from l t true (record { rows = true; at = b; left = k })) labels
  unfolding seqs_fault seqs_from first_aligns fault_of
  rows_cut sheet width labels a n b k =
      let S : List Seq = seqs_by false l t true a n in
      ap₂ first (structs-cut sheet width labels (aligns_of sheet S) 65536 S (defs_below false n a)) (records-cut sheet width labels (aligns_of sheet S) 65536 [] (seqs_by true l t true b k) (defs_below true k b))

  -- the rows of a layout give what its records and structs give
  pub table_is : (text : List ℕ) → Formed t text → (sheet : List ℕ) (width labels : ℕ)
      → table_fault sheet width labels l t (kinds t 10) (kinds t 13) ≡ seqs_fault sheet width (map struct_seq (tree_of 0 t text).structs) (map record_seq (tree_of 0 t text).records) labels
  unfolding table_fault seqs_from
  table_is text w sheet width labels =
      let s = seqs-are false (struct_of t text) struct_seq (one_struct text) (kinds t 13) (structs_from t) ∙ sym (ap (map struct_seq) (tree-structs 0 t text)) in
      let r = seqs-are true (record_of t text) record_seq (one_record text) (kinds t 10) 0 ∙ sym (ap (map record_seq) (tree-records 0 t text)) in
      rw (good-stands _ _ _ _ (rows-ready text w).records-good, records-end, good-stands _ _ _ _ (rows-ready text w).structs-good) (ap₂ (λ (x y : List Seq). seqs_fault sheet width x y labels) s r)
