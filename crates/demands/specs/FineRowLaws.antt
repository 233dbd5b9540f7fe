-- The rows of a layout whose parts have bytes pass the tests of a row, 90 to 93, where the names stand in the text. Assumes nothing.
use Rattle.std.specs.Prelude.{ℕ, ◌+◌, ◌*◌, ◌/◌, ◌%◌, ◌≤◌, ◌<◌, ◌≡◌, false, List, [], ◌∷◌, map, eqb}
use Rattle.std.proofs.Common.{arith}
use Rattle.std.proofs.Math.Path.{refl}
use Rattle.std.proofs.Math.Bool.{true}
use Rattle.std.proofs.Math.ListN.{length, get_or}
use Rattle.std.proofs.Math.Dec.{leb}
use borrow.Author.Tests.{le-leb}
use Rattle.wire.specs.Reader.{all_tests, name}
use Rattle.wire.specs.Formats.{Name}
use Rattle.wire.specs.FormatLaws.{name-start, name-lawful}
use Rattle.table.specs.Table.{all_rows}
use Rattle.table.specs.EachLaws.{Each, each_append, each_item}
use Rattle.layout.specs.Layout.{Entry, Fields, RecordL, StructL, Label, LabelDef}
use Rattle.layout.specs.LayoutOf.{D, entry, fields, label, record_l, struct_l, label_def}
use Rattle.layout.specs.Rows.{entry_row, name_row, field_rows, record_rows, struct_rows, label_row, label_def_rows}
use Rattle.layout.specs.NameCountLaws.{AllOf}
use Rattle.layout.specs.LawfulLaws.{entry-lawful, fields-lawful, record_lawful, struct_lawful, label-lawful, label_def-lawful}
use Rattle.rows_check.specs.Tree.{cells}
use Rattle.rows_check.specs.Check.{both, every, limit_of, number_fits, row_fits, count_fits, name_short, clean, name_clean, row_test, passes}
use Rattle.demands.specs.StandLaws.{Stand}
use Rattle.demands.specs.RowsBackLaws.{InText, Rooted, record_rooted, struct_rooted, label_def_rooted, label_rooted, fields_rooted}

module _ {A : Type 0} (Q : List ℕ → Type 0) where
  -- what holds of the row of anything holds of the rows of some
  pub each_free : (row : A → List ℕ) → ((x : A) → Q (row x)) → (xs : List A) → Each Q (map row xs)
  each_free row h xs = each_item (λ _. Unit {0}) Q (λ _. Unit {0}) (λ x xs e. (tt, tt)) row (λ x e. h x) xs tt

  -- what holds of the rows of anything of which P holds, holds of the rows of some
  pub each_rows : (P : A → Type 0) (rows_of : A → List (List ℕ)) → ((x : A) → P x → Each Q (rows_of x)) → (xs : List A) → AllOf P xs → Each Q (all_rows rows_of xs)
  each_rows P rows_of h [] p = tt
  each_rows P rows_of h (x ∷ xs) p = each_append Q (rows_of x) (all_rows rows_of xs) (h x p.0) (each_rows P rows_of h xs p.1)

-- what follows from what holds of every row holds of every row
pub each_of : (Q R : List ℕ → Type 0) → ((r : List ℕ) → Q r → R r) → (rs : List (List ℕ)) → Each Q rs → Each R rs
each_of Q R f [] e = tt
each_of Q R f (r ∷ rs) e = (f r e.0, each_of Q R f rs e.1)

-- ---- the tests of a row

-- a test of a row is that test of the row alone
row-alone : (which : ℕ) (table text : List ℕ) (q : ℕ) → row_test which table text q ≡ row_test which (cells table q) text 0
unfolding row_test row_fits every count_fits name_short name_clean
row-alone which table text q = refl

-- where every row passes a test alone, the rows of the table pass it
pub each-passes : (which : ℕ) (table text : List ℕ) (rs : List (List ℕ)) (q : ℕ) → Each (λ r. row_test which r text 0 ≡ true) rs → Stand table q rs → passes which table text q (length rs) ≡ true
unfolding every both
each-passes which table text [] q e h = refl
each-passes which table text (r ∷ rs) q e h = rw (row-alone which table text q, h.0, e.0) (each-passes which table text rs (q + 1) e.1 h.1)

-- a row that passes 90 to 93
pub record Fine (text r : List ℕ) : Type 0 where
  pub fits : row_test 90 r text 0 ≡ true
  pub counts : row_test 91 r text 0 ≡ true
  pub short : row_test 92 r text 0 ≡ true
  pub clean : row_test 93 r text 0 ≡ true

module _ (text : List ℕ) (small : length text ≤ 4294967295) where
  -- the row of an entry
  entry-fine : (e : Entry) → Rooted text entry e → Fine text (entry_row e)
  unfolding row_test row_fits every both limit_of count_fits name_short name_clean
  entry-fine e (lg, at) =
      let b = (entry-lawful all_tests D e lg).octets in
      let w : (i j : ℕ) → leb (get_or e.head i 0 + 256 * get_or e.head j 0) 65535 ≡ true = λ i j. le-leb (get_or e.head i 0 + 256 * get_or e.head j 0) 65535 (omega (arith, b i, b j)) in
      let o : (i : ℕ) → leb (get_or e.head i 0) 255 ≡ true = λ i. le-leb (get_or e.head i 0) 255 (omega (arith, b i)) in
      record { fits = rw (w 0 1, w 2 3, w 4 5, o 6, o 7, w 8 9, o 10); counts = refl; short = refl; clean = refl }

  module _ (kind : ℕ) (n : Name) (a b c d e f : ℕ) where
    -- a row with a name
    abbrev name_row_of : List ℕ
    name_row_of = kind ∷ n.start ∷ length n.text ∷ a ∷ b ∷ c ∷ d ∷ e ∷ f ∷ []

    -- it is fine where its kind has a name, its other numbers are within their limits and its count fits
    name-fine : (leb 10 kind ≡ true) × (leb kind 15 ≡ true) × (eqb kind 11 ≡ false) × (limit_of kind 1 ≡ 4294967295) × (limit_of kind 2 ≡ 4294967295) → Rooted text name n
        → every (number_fits name_row_of 0 kind) 3 6 ≡ true → count_fits name_row_of 0 ≡ true → Fine text name_row_of
    unfolding row_test row_fits every both name_short name_clean clean
    name-fine k g l c =
        let i = name-start all_tests (InText text) n g.1 in
        let w = name-lawful all_tests n g.0 in
        let z = w.short in
        let m : leb n.start 4294967295 ≡ true = le-leb n.start 4294967295 (omega (arith, i.1)) in
        let o : leb (length n.text) 4294967295 ≡ true = le-leb (length n.text) 4294967295 (omega arith) in
        let v : leb (length n.text) 255 ≡ true = le-leb (length n.text) 255 (omega arith) in
        let s : leb (n.start + length n.text) (length text) ≡ true = le-leb (n.start + length n.text) (length text) i.1 in
        record {
          fits = rw (k.0, k.1, k.2, k.3, k.4, m, o, s, l);
          counts = c;
          short = rw (k.2, v);
          clean = rw (k.2, s, i.0, w.no_nul, w.utf8);
        }

  -- the row of a label
  label-fine : (l : Label) → Rooted text label l → Fine text (label_row l)
  unfolding every both limit_of count_fits
  label-fine l g =
      let c = (label-lawful all_tests l g.0).0 in
      name-fine 15 l.name l.code 0 0 0 0 0 (refl, refl, refl, refl, refl) (label_rooted text l g) (rw (le-leb l.code 65535 (omega arith))) refl

  -- the rows of fields, of a record, of a struct, of a label def
  fields-fine : (f : Fields) → Rooted text fields f → Each (Fine text) (field_rows f)
  unfolding every both limit_of count_fits
  fields-fine f g =
      let v = fields_rooted text f g in
      each_append (Fine text) (map entry_row f.entries) (map name_row f.names)
      (each_item (Rooted text entry) (Fine text) (AllOf (Rooted text entry)) (λ x xs e. e) entry_row entry-fine f.entries v.0)
      (each_item (Rooted text name) (Fine text) (AllOf (Rooted text name)) (λ x xs e. e) name_row (λ n g. name-fine 12 n 0 0 0 0 0 0 (refl, refl, refl, refl, refl) g refl refl) f.names v.1)

  pub record_fine : (r : RecordL) → Rooted text record_l r → Each (Fine text) (record_rows r)
  unfolding every both limit_of count_fits
  record_fine r g =
      let b = record_lawful all_tests D r g.0 in
      let v = record_rooted text r g in
      let few = (fields-lawful all_tests D r.fields b.fields).count in
      let d = b.hash in
      let w : (x : ℕ) → x < 65536 → leb x 65535 ≡ true = λ x h. le-leb x 65535 (omega arith) in
      let o : (x : ℕ) → x < 4294967296 → leb x 4294967295 ≡ true = λ x h. le-leb x 4294967295 (omega arith) in
      let n = length r.fields.entries in (
        name-fine 10 r.name r.rtype r.schema r.base n (r.hash % 4294967296) (r.hash / 4294967296) (refl, refl, refl, refl, refl) v.0
            (rw (w r.rtype b.rtype, w r.schema b.schema, w r.base b.base, o n (omega arith), o (r.hash % 4294967296) (omega arith), o (r.hash / 4294967296) (omega arith)))
            (rw (w n few)),
        fields-fine r.fields v.1,
      )

  pub struct_fine : (s : StructL) → Rooted text struct_l s → Each (Fine text) (struct_rows s)
  unfolding every both limit_of count_fits
  struct_fine s g =
      let b = struct_lawful all_tests D s g.0 in
      let v = struct_rooted text s g in
      let few = (fields-lawful all_tests D s.fields b.fields).count in
      let z = b.own in
      let n = length s.fields.entries in (
        name-fine 13 s.name s.size n 0 0 0 0 (refl, refl, refl, refl, refl) v.0
            (rw (le-leb s.size 65535 (omega arith), le-leb n 4294967295 (omega arith)))
            (rw (le-leb n 65535 (omega arith))),
        fields-fine s.fields v.1,
      )

  pub label_def_fine : (d : LabelDef) → Rooted text label_def d → Each (Fine text) (label_def_rows d)
  unfolding every both limit_of count_fits
  label_def_fine d g =
      let v = label_def_rooted text d g in
      let few = (label_def-lawful all_tests d g.0).count in (
        name-fine 14 d.name (length d.labels) 0 0 0 0 0 (refl, refl, refl, refl, refl) v.0
            (rw (le-leb (length d.labels) 4294967295 (omega arith)))
            (rw (le-leb (length d.labels) 65535 (omega arith))),
        each_item (Rooted text label) (Fine text) (AllOf (Rooted text label)) (λ x xs e. e) label_row label-fine d.labels v.1,
      )
