-- Rows that are well formed are the rows of the layout that they stand for. Assumes nothing.
use Prim.Native.Nat.{ℕ, zero, suc, ◌+◌, ◌-◌, ◌*◌, ◌/◌, ◌%◌, ◌≤◌, ◌<◌}
use native.Mathlib.Omega.{arith}
use Rattle.std.specs.Prelude.{◌≡◌, true, take, drop, T, ltb}
use Rattle.std.proofs.Math.Path.{refl, sym, ap, ap₂}
use Rattle.std.proofs.Common.{◌∙◌, length-take, length-drop, drop_of_length-le, drop-cons, ltb→lt}
use mathlib.Core.List.{List, [], ◌∷◌, ◌++◌, map}
use Rattle.std.proofs.Math.ListN.{length}
use Rattle.entry.specs.EntryLaws.{row-numbers}
use Rattle.layout.specs.Rows.{entry_row, name_row, field_rows, record_rows, struct_rows, label_row, label_def_rows, rows}
use Rattle.layout.specs.PlaceLaws.{rows-parts}
use Rattle.layout.specs.NameCountLaws.{AllOf, Even, NamesMatch}
use Rattle.table.specs.Table.{flat, all_rows}
use Rattle.rows_check.specs.Tree.{cell, row_count, from, after, cells, rows_in, name_of, entry_of, label_of, fields_of, record_of, struct_of, label_def_of, count_of, names_from, next_section, skip, kinds, structs_from, labels_from, tree_of}
use Rattle.rows_check.specs.Check.{row_fits, limit_of, name_kind}
use Rattle.rows_check.specs.CheckLaws.{number-le, row-span, InPlace, Places, Formed, next_more}

-- ---- items one after the other

module _ {A : Type 0} (next : ℕ → ℕ) (f : ℕ → A) (q : ℕ) where
  pub from-none : from next f q 0 ≡ []
  unfolding from
  from-none = refl

  pub from_next : (k : ℕ) → from next f q (suc k) ≡ f q ∷ from next f (next q) k
  unfolding from
  from_next k = refl

pub length_from : {A : Type 0} (next : ℕ → ℕ) (f : ℕ → A) (k q : ℕ) → length (from next f q k) ≡ k
unfolding from
length_from next f zero q = refl
length_from next f (suc k) q = ap suc (length_from next f k (next q))

-- what is the same of every row, is the same of all
pub map-from : {A B : Type 0} (g : A → B) (f : ℕ → A) (h : ℕ → B) (k q : ℕ) → ((j : ℕ) → q ≤ j → j < q + k → g (f j) ≡ h j) → map g (from after f q k) ≡ from after h q k
unfolding from
map-from g f h zero q e = refl
map-from g f h (suc k) q e = ap₂ ◌∷◌ (e q (omega arith) (omega arith)) (map-from g f h k (q + 1) (λ j a b. e j (omega arith) (omega arith)))

-- ---- the rows of the table

-- the rows from q up to e
unfoldable span : List ℕ → ℕ → ℕ → List (List ℕ)
span table q e = from after (cells table) q (e - q)

from_join : {A : Type 0} (f : ℕ → A) (n m q : ℕ) → from after f q (n + m) ≡ from after f q n ++ from after f (q + n) m
unfolding from
from_join f zero m q =
    let a : 0 + m ≡ m = omega arith in
    let b : q ≡ q + 0 = omega arith in
    ap (from after f q) a ∙ ap (λ (j : ℕ). from after f j m) b
from_join f (suc n) m q =
    let a : suc n + m ≡ suc (n + m) = omega arith in
    let b : q + 1 + n ≡ q + suc n = omega arith in
    ap (from after f q) a ∙ ap (λ l. f q ∷ l) (from_join f n m (q + 1)) ∙ ap (λ (j : ℕ). f q ∷ (from after f (q + 1) n ++ from after f j m)) b

span_join : (table : List ℕ) (q m e : ℕ) → q ≤ m → m ≤ e → span table q e ≡ span table q m ++ span table m e
unfolding span
span_join table q m e a b =
    let n : e - q ≡ (m - q) + (e - m) = omega arith in
    let k : q + (m - q) ≡ m = omega arith in
    ap (from after (cells table) q) n ∙ from_join (cells table) (m - q) (e - m) q ∙ ap (λ (j : ℕ). from after (cells table) q (m - q) ++ from after (cells table) j (e - m)) k

-- the rows are the table
nine : (table : List ℕ) (q : ℕ) → 9 * (q + 1) ≤ length table → drop (9 * q) table ≡ cells table q ++ drop (9 * (q + 1)) table
nine table q h =
    let a : 9 * q ≡ 9 * q + 0 = omega arith in
    let b : 9 * q + 9 ≡ 9 * (q + 1) = omega arith in
    ap (λ (i : ℕ). drop i table) a ∙ one 0 1 (omega arith) (omega arith) ∙ ap (λ (l : List ℕ). cell table q 0 ∷ l) (one 1 2 (omega arith) (omega arith) ∙ ap (λ (l : List ℕ). cell table q 1 ∷ l) (one 2 3 (omega arith) (omega arith) ∙ ap (λ (l : List ℕ). cell table q 2 ∷ l) (one 3 4 (omega arith) (omega arith) ∙ ap (λ (l : List ℕ). cell table q 3 ∷ l) (one 4 5 (omega arith) (omega arith) ∙ ap (λ (l : List ℕ). cell table q 4 ∷ l) (one 5 6 (omega arith) (omega arith) ∙ ap (λ (l : List ℕ). cell table q 5 ∷ l) (one 6 7 (omega arith) (omega arith) ∙ ap (λ (l : List ℕ). cell table q 6 ∷ l) (one 7 8 (omega arith) (omega arith) ∙ ap (λ (l : List ℕ). cell table q 7 ∷ l) (one 8 9 (omega arith) (omega arith) ∙ ap (λ (l : List ℕ). cell table q 8 ∷ l) (ap (λ (i : ℕ). drop i table) b)))))))))
  where
    one : (k m : ℕ) → 9 * q + k < length table → m ≡ suc k → drop (9 * q + k) table ≡ cell table q k ∷ drop (9 * q + m) table
    one k m g e =
        let c : suc (9 * q + k) ≡ 9 * q + m = omega arith in
        drop-cons table (9 * q + k) 0 g ∙ ap (λ (i : ℕ). cell table q k ∷ drop i table) c

flat_rows : (table : List ℕ) (n q : ℕ) → length table ≡ 9 * (q + n) → flat (from after (cells table) q n) ≡ drop (9 * q) table
unfolding from
flat_rows table zero q h = let g : length table ≤ 9 * q = omega arith in sym (drop_of_length-le table g)
flat_rows table (suc n) q h = ap (λ (l : List ℕ). cells table q ++ l) (flat_rows table n (q + 1) (omega arith)) ∙ sym (nine table q (omega arith))

-- ---- each row is the row of its part

module _ (table text : List ℕ) where
  abbrev Fits : Type 0
  Fits = (j : ℕ) → j < row_count table → row_fits table text j ≡ true

  part_length : (s l : ℕ) → s + l ≤ length text → length (take l (drop s text)) ≡ l
  part_length s l h = simp (length-take, length-drop) (omega arith)

  module _ (q : ℕ) (e : row_fits table text q ≡ true) where
    -- the length of a name's text is what its row says
    pub name-len : (cell table q 0 ≡ 11 → ⊥) → length (name_of table text q).text ≡ cell table q 2
    name-len h = part_length (cell table q 1) (cell table q 2) (row-span table text q e h)

    field_row : cell table q 0 ≡ 11 → entry_row (entry_of table q) ≡ cells table q
    unfolding limit_of
    field_row k =
        let l1 : cell table q 1 ≤ 65535 = number-le table text q e 11 k 1 (omega arith) (omega arith) in
        let l2 : cell table q 2 ≤ 65535 = number-le table text q e 11 k 2 (omega arith) (omega arith) in
        let l3 : cell table q 3 ≤ 65535 = number-le table text q e 11 k 3 (omega arith) (omega arith) in
        let l4 : cell table q 4 ≤ 255 = number-le table text q e 11 k 4 (omega arith) (omega arith) in
        let l5 : cell table q 5 ≤ 255 = number-le table text q e 11 k 5 (omega arith) (omega arith) in
        let l6 : cell table q 6 ≤ 65535 = number-le table text q e 11 k 6 (omega arith) (omega arith) in
        let l7 : cell table q 7 ≤ 255 = number-le table text q e 11 k 7 (omega arith) (omega arith) in
        let l8 : cell table q 8 ≤ 0 = number-le table text q e 11 k 8 (omega arith) (omega arith) in
        let z : cell table q 8 ≡ 0 = omega arith in
        ap₂ (λ (kind : ℕ) (ns : List ℕ). kind ∷ (ns ++ (0 ∷ []))) (sym k)
        (row-numbers table (9 * q) (omega arith) (omega arith) (omega arith) (omega arith) (omega arith) (omega arith) (omega arith)) ∙ rw z

    -- an unused number is 0
    unused : {kind : ℕ} → cell table q 0 ≡ kind → (j : ℕ) → limit_of kind (suc j) ≡ 0 → T (ltb j 8) → 0 ≡ cell table q (suc j)
    unused {kind} k j z t =
        let l = number-le table text q e kind k (suc j) (omega arith) (let h = ltb→lt j 8 t in omega arith) in
        omega arith

    name-row : cell table q 0 ≡ 12 → name_row (name_of table text q) ≡ cells table q
    unfolding limit_of
    name-row k = ap₂ ◌∷◌ (sym k) (ap₂ ◌∷◌ refl (ap₂ ◌∷◌ (name-len (λ p. omega arith)) (ap₂ ◌∷◌ (unused k 2 refl tt) (ap₂ ◌∷◌ (unused k 3 refl tt) (ap₂ ◌∷◌ (unused k 4 refl tt) (ap₂ ◌∷◌ (unused k 5 refl tt) (ap₂ ◌∷◌ (unused k 6 refl tt) (ap₂ ◌∷◌ (unused k 7 refl tt) refl))))))))

    label-row : cell table q 0 ≡ 15 → label_row (label_of table text q) ≡ cells table q
    unfolding limit_of
    label-row k = ap₂ ◌∷◌ (sym k) (ap₂ ◌∷◌ refl (ap₂ ◌∷◌ (name-len (λ p. omega arith)) (ap₂ ◌∷◌ refl (ap₂ ◌∷◌ (unused k 3 refl tt) (ap₂ ◌∷◌ (unused k 4 refl tt) (ap₂ ◌∷◌ (unused k 5 refl tt) (ap₂ ◌∷◌ (unused k 6 refl tt) (ap₂ ◌∷◌ (unused k 7 refl tt) refl))))))))

    struct_row : cell table q 0 ≡ 13 → (13 ∷ cell table q 1 ∷ length (name_of table text q).text ∷ cell table q 3 ∷ cell table q 4 ∷ 0 ∷ 0 ∷ 0 ∷ 0 ∷ []) ≡ cells table q
    unfolding limit_of
    struct_row k = ap₂ ◌∷◌ (sym k) (ap₂ ◌∷◌ refl (ap₂ ◌∷◌ (name-len (λ p. omega arith)) (ap₂ ◌∷◌ refl (ap₂ ◌∷◌ refl (ap₂ ◌∷◌ (unused k 4 refl tt) (ap₂ ◌∷◌ (unused k 5 refl tt) (ap₂ ◌∷◌ (unused k 6 refl tt) (ap₂ ◌∷◌ (unused k 7 refl tt) refl))))))))

    def_row : cell table q 0 ≡ 14 → (14 ∷ cell table q 1 ∷ length (name_of table text q).text ∷ cell table q 3 ∷ 0 ∷ 0 ∷ 0 ∷ 0 ∷ 0 ∷ []) ≡ cells table q
    unfolding limit_of
    def_row k = ap₂ ◌∷◌ (sym k) (ap₂ ◌∷◌ refl (ap₂ ◌∷◌ (name-len (λ p. omega arith)) (ap₂ ◌∷◌ refl (ap₂ ◌∷◌ (unused k 3 refl tt) (ap₂ ◌∷◌ (unused k 4 refl tt) (ap₂ ◌∷◌ (unused k 5 refl tt) (ap₂ ◌∷◌ (unused k 6 refl tt) (ap₂ ◌∷◌ (unused k 7 refl tt) refl))))))))

    record_row : cell table q 0 ≡ 10 → (10 ∷ cell table q 1 ∷ length (name_of table text q).text ∷ cell table q 3 ∷ cell table q 4 ∷ cell table q 5 ∷ cell table q 6 ∷ (cell table q 7 + 4294967296 * cell table q 8) % 4294967296 ∷ (cell table q 7 + 4294967296 * cell table q 8) / 4294967296 ∷ []) ≡ cells table q
    unfolding limit_of
    record_row k =
        let l7 : cell table q 7 ≤ 4294967295 = number-le table text q e 10 k 7 (omega arith) (omega arith) in
        ap₂ ◌∷◌ (sym k) (ap₂ ◌∷◌ (refl) (ap₂ ◌∷◌ (name-len (λ p. omega arith)) (ap₂ ◌∷◌ (refl) (ap₂ ◌∷◌ (refl) (ap₂ ◌∷◌ (refl) (ap₂ ◌∷◌ (refl) (ap₂ ◌∷◌ (omega arith) (ap₂ ◌∷◌ (omega arith) (refl)))))))))

  -- ---- and each section's rows are those of the section

  -- the rows of n fields
  fields-rows : Fits → (q n e : ℕ) → e ≡ q + n + n → e ≤ row_count table → ((j : ℕ) → q ≤ j → j < q + n → cell table j 0 ≡ 11) → ((j : ℕ) → q + n ≤ j → j < e → cell table j 0 ≡ 12)
      → field_rows (fields_of table text q n) ≡ span table q e
  unfolding span
  fields-rows f q n e i h a b =
      let m : e - q ≡ n + n = omega arith in
      ap₂ ◌++◌ (map-from entry_row (entry_of table) (cells table) n q (λ j g l. field_row j (f j (omega arith)) (a j g l)))
      (map-from name_row (name_of table text) (cells table) n (q + n) (λ j g l. name-row j (f j (omega arith)) (b j g (omega arith))))
      ∙ sym (from_join (cells table) n n q) ∙ ap (from after (cells table) q) (sym m)

  -- the row of a section and the rest of it
  span-first : (q e : ℕ) → q + 1 ≤ e → span table q e ≡ cells table q ∷ span table (q + 1) e
  unfolding span from
  span-first q e h =
      let a : e - q ≡ suc (e - (q + 1)) = omega arith in
      ap (from after (cells table) q) a

  record_rows_lem : Fits → (q : ℕ) → InPlace 10 table q → record_rows (record_of table text q) ≡ span table q (next_section 10 table q)
  unfolding count_of names_from name_kind
  record_rows_lem f q p =
      let n : length (from after (entry_of table) (q + 1) (cell table q 6)) ≡ cell table q 6 = length_from after (entry_of table) (cell table q 6) (q + 1) in
      let i = p.first in
      let z = p.inside in
      rw n (ap₂ ◌∷◌ (record_row q (f q (omega arith)) p.head) (fields-rows f (q + 1) (cell table q 6) (next_section 10 table q) refl z p.fields p.names)
      ∙ sym (span-first q (next_section 10 table q) (omega arith)))

  struct_rows_lem : Fits → (q : ℕ) → InPlace 13 table q → struct_rows (struct_of table text q) ≡ span table q (next_section 13 table q)
  unfolding count_of names_from name_kind
  struct_rows_lem f q p =
      let n : length (from after (entry_of table) (q + 1) (cell table q 4)) ≡ cell table q 4 = length_from after (entry_of table) (cell table q 4) (q + 1) in
      let i = p.first in
      let z = p.inside in
      rw n (ap₂ ◌∷◌ (struct_row q (f q (omega arith)) p.head) (fields-rows f (q + 1) (cell table q 4) (next_section 13 table q) refl z p.fields p.names)
      ∙ sym (span-first q (next_section 13 table q) (omega arith)))

  labels-rows : Fits → (q n : ℕ) → q + n ≤ row_count table → ((j : ℕ) → q ≤ j → j < q + n → cell table j 0 ≡ 15) → map label_row (from after (label_of table text) q n) ≡ span table q (q + n)
  unfolding span
  labels-rows f q n h a =
      let m : n ≡ q + n - q = omega arith in
      map-from label_row (label_of table text) (cells table) n q (λ j g l. label-row j (f j (omega arith)) (a j g l)) ∙ ap (from after (cells table) q) m

  def_rows : Fits → (q : ℕ) → InPlace 14 table q → label_def_rows (label_def_of table text q) ≡ span table q (next_section 14 table q)
  unfolding count_of names_from name_kind
  def_rows f q p =
      let n : length (from after (label_of table text) (q + 1) (cell table q 3)) ≡ cell table q 3 = length_from after (label_of table text) (cell table q 3) (q + 1) in
      let i = p.first in
      let z = p.inside in
      rw n (ap₂ ◌∷◌ (def_row q (f q (omega arith)) p.head) (labels-rows f (q + 1) (cell table q 3) z p.names)
      ∙ sym (span-first q (next_section 14 table q) (omega arith)))

  -- sections one after the other
  skip-more : (kind k q : ℕ) → q ≤ skip kind table q k
  unfolding skip
  skip-more kind zero q = omega arith
  skip-more kind (suc k) q = omega (arith, next_more kind table q, skip-more kind k (next_section kind table q))

  span_none : (q : ℕ) → [] ≡ span table q q
  unfolding span from
  span_none q = let z : 0 ≡ q - q = omega arith in ap (from after (cells table) q) z

  all-rows : {A : Type 0} (kind : ℕ) (part : ℕ → A) (rows_of : A → List (List ℕ)) → ((q : ℕ) → InPlace kind table q → rows_of (part q) ≡ span table q (next_section kind table q))
      → (k q : ℕ) → Places kind table q k → all_rows rows_of (from (next_section kind table) part q k) ≡ span table q (skip kind table q k)
  unfolding from skip Places
  all-rows kind part rows_of f zero q p = span_none q
  all-rows kind part rows_of f (suc k) q p =
      let a = next_more kind table q in
      let b = skip-more kind k (next_section kind table q) in
      ap₂ ◌++◌ (f q p.0) (all-rows kind part rows_of f k (next_section kind table q) p.1)
      ∙ sym (span_join table q (next_section kind table q) (skip kind table (next_section kind table q) k) (omega arith) b)

  span-all : span table 0 (row_count table) ≡ rows_in table
  unfolding span rows_in
  span-all = let z : row_count table - 0 ≡ row_count table = omega arith in ap (from after (cells table) 0) z

  flat-all : length table ≡ 9 * row_count table → flat (rows_in table) ≡ table
  unfolding rows_in
  flat-all n = flat_rows table (row_count table) 0 (omega arith)

  -- the rows of the layout are the rows
  pub tree-rows : (version : ℕ) → Formed table text → rows (tree_of version table text) ≡ rows_in table
  unfolding tree_of
  tree-rows version w =
      let f = w.fits in
      let a = skip-more 10 (kinds table 10) 0 in
      let b = skip-more 13 (kinds table 13) (structs_from table) in
      let d = skip-more 14 (kinds table 14) (labels_from table) in
      let end = skip 14 table (labels_from table) (kinds table 14) in
      rows-parts (_, (_, (_, _)))
      ∙ ap₂ ◌++◌ (all-rows 10 (record_of table text) record_rows (record_rows_lem f) (kinds table 10) 0 w.records)
      (ap₂ ◌++◌ (all-rows 13 (struct_of table text) struct_rows (struct_rows_lem f) (kinds table 13) (structs_from table) w.structs) (all-rows 14 (label_def_of table text) label_def_rows (def_rows f) (kinds table 14) (labels_from table) w.labels)
      ∙ sym (span_join table (structs_from table) (labels_from table) end b d))
      ∙ sym (span_join table 0 (structs_from table) end a (omega arith))
      ∙ ap (span table 0) w.all
      ∙ span-all

  pub tree-flat : (version : ℕ) → Formed table text → flat (rows (tree_of version table text)) ≡ table
  tree-flat version w = ap flat (tree-rows version w) ∙ flat-all w.nines

pub tree-version : (version : ℕ) (table text : List ℕ) → (tree_of version table text).version ≡ version
unfolding tree_of
tree-version version table text = refl

-- its records, structs and label defs
module _ (version : ℕ) (table text : List ℕ) where
  pub tree-records : (tree_of version table text).records ≡ from (next_section 10 table) (record_of table text) 0 (kinds table 10)
  unfolding tree_of
  tree-records = refl

  pub tree-structs : (tree_of version table text).structs ≡ from (next_section 13 table) (struct_of table text) (structs_from table) (kinds table 13)
  unfolding tree_of
  tree-structs = refl

  pub tree-labels : length (tree_of version table text).labels ≡ kinds table 14
  unfolding tree_of
  tree-labels = length_from (next_section 14 table) (label_def_of table text) (kinds table 14) (labels_from table)

-- ---- names and entries

fields-even : (table text : List ℕ) (q n : ℕ) → Even (fields_of table text q n)
fields-even table text q n = length_from after (name_of table text) n (q + n) ∙ sym (length_from after (entry_of table) n q)

all_from : {A : Type 0} (P : A → Type 0) (next : ℕ → ℕ) (f : ℕ → A) → ((q : ℕ) → P (f q)) → (k q : ℕ) → AllOf P (from next f q k)
unfolding from
all_from P next f h zero q = tt
all_from P next f h (suc k) q = (h q, all_from P next f h k (next q))

-- EVERY layout that rows stand for, whichever they are, has as many names as entries in each record and struct
pub tree-names_match : (version : ℕ) (table text : List ℕ) → NamesMatch (tree_of version table text)
unfolding tree_of
tree-names_match version table text = record {
  records = all_from _ (next_section 10 table) (record_of table text) (λ q. fields-even table text (q + 1) (cell table q 6)) (kinds table 10) 0;
  structs = all_from _ (next_section 13 table) (struct_of table text) (λ q. fields-even table text (q + 1) (cell table q 4)) (kinds table 13) (structs_from table);
}
