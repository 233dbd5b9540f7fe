-- Sections by their rows: what stands where their rows are in place, the bytes of each part and how many they are.
-- Assumes nothing.
use Prim.Native.Nat.{ℕ, zero, suc, ◌+◌, ◌-◌, ◌*◌, ◌≤◌, ◌<◌, ◌%◌}
use native.Mathlib.Omega.{arith}
use Rattle.std.specs.Prelude.{◌≡◌, take, drop, Bool, eqb}
use Rattle.std.proofs.Common.{sym, ◌∙◌, subst, ⊎_elim, length-take, length-drop}
use Rattle.std.proofs.Math.Path.{ap, refl, ap₂}
use mathlib.Core.List.{List, [], ◌∷◌, ◌++◌}
use Rattle.std.proofs.Math.ListN.{length, length-append, length-replicate}
use Rattle.rows_check.specs.Tree.{cell, count_of, names_from, next_section, skip, kinds, structs_from, labels_from, by_kind, has_fields, from, after, name_of, entry_of, label_of, fields_of, record_of, struct_of, label_def_of, tree_of}
use Rattle.rows_check.specs.Sections.{SectionRows, Sections, many, printed_name, printed_entry, printed_label, printed_fields, printed_head, printed_labels, printed_numbers, printed_contents, printed_body, printed_group}
use Rattle.rows_check.specs.CheckLaws.{row-span, InPlace, Places, Formed, next_more, name-kind-is}
use Rattle.std.proofs.Math.Nat.{mul-suc}
use Rattle.std.proofs.Math.Bool.{true, false, cond}
use Rattle.std.proofs.Math.Dec.{T}
use Rattle.codec.specs.Codec.{Codec, little, times_print}
use Rattle.wire.specs.Reader.{all_tests}
use Rattle.entry.specs.EntryLaws.{row-bytes-length}
use Rattle.wire.specs.Reader.{name}
use Rattle.layout.specs.LayoutOf.{D, D-least, entry, label, record_l, struct_l, label_def}
use Rattle.wire.specs.FormatLaws.{name-print}
use Rattle.layout.specs.Layout.{print_layout}
use Rattle.layout.specs.PrintLaws.{entry-print, fields-print, label-print, label_def-print, label_body-print, struct_print, struct_body-print, record_print, record_body-print, layout-print}
use Rattle.rows_check.specs.Check.{printed_section, printed}
use Rattle.rows_check.specs.TreeLaws.{length_from}

pub own-row-inside : (kind : ℕ) (rows text : List ℕ) (q : ℕ) → SectionRows kind rows text q → 9 * (q + 1) ≤ length rows
own-row-inside kind rows text q s = omega (arith, s.inside, next_more kind rows q)

module _ (kind : ℕ) (rows text : List ℕ) (q k : ℕ) where
  pub sections-next : 0 < k → Sections kind rows text q k → SectionRows kind rows text q × Sections kind rows text (next_section kind rows q) (k - 1)
  unfolding Sections
  sections-next h s = let e : k ≡ suc (k - 1) = omega arith in rw e at s

module _ (kind : ℕ) (rows : List ℕ) (q k : ℕ) where
  pub skip-next : 0 < k → skip kind rows q k ≡ skip kind rows (next_section kind rows q) (k - 1)
  unfolding skip
  skip-next h = let e : k ≡ suc (k - 1) = omega arith in ap (skip kind rows q) e

  pub skip-none : k ≤ 0 → skip kind rows q k ≡ q
  unfolding skip
  skip-none h = let e : k ≡ 0 = omega arith in rw e

-- ---- rows that are well formed

module _ (rows text : List ℕ) (w : Formed rows text) where
  section-rows : (kind q : ℕ) → (kind ≡ 11 → ⊥) → InPlace kind rows q → SectionRows kind rows text q
  section-rows kind q ne p =
      let i = p.inside in
      let a = p.first in
      let n = w.nines in
      record {
        inside = omega arith;
        own = row-span rows text q (w.fits q (omega arith)) (λ e. ne (sym p.head ∙ e));
        names = λ k g h.
            let m = p.names k g h in
            row-span rows text k (w.fits k (omega arith)) (λ e. ⊎_elim (λ f. let z : 12 ≡ 11 = sym f ∙ sym m ∙ e in omega arith) (λ f. let z : 15 ≡ 11 = sym f ∙ sym m ∙ e in omega arith) (name-kind-is kind));
      }

  sections-of : (kind : ℕ) → (kind ≡ 11 → ⊥) → (k q : ℕ) → Places kind rows q k → Sections kind rows text q k
  unfolding Places Sections
  sections-of kind ne zero q p = tt
  sections-of kind ne (suc k) q p = (section-rows kind q ne p.0, sections-of kind ne k (next_section kind rows q) p.1)

  pub record_sections : Sections 10 rows text 0 (kinds rows 10)
  record_sections = sections-of 10 (λ e. omega arith) (kinds rows 10) 0 w.records

  pub struct_sections : Sections 13 rows text (structs_from rows) (kinds rows 13)
  struct_sections = sections-of 13 (λ e. omega arith) (kinds rows 13) (structs_from rows) w.structs

  pub label_def_sections : Sections 14 rows text (labels_from rows) (kinds rows 14)
  label_def_sections = sections-of 14 (λ e. omega arith) (kinds rows 14) (labels_from rows) w.labels

-- ---- by the kind of the section

module _ (kind : ℕ) (rows : List ℕ) (q : ℕ) where
  pub count-is : count_of kind rows q ≡ by_kind kind (cell rows q 6) (cell rows q 4) (cell rows q 3)
  unfolding count_of
  count-is = refl

  -- the entries of fields stand before their names
  pub names-after : has_fields kind ≡ true → names_from kind rows q ≡ q + 1 + count_of kind rows q
  unfolding count_of names_from
  names-after = go (eqb kind 10) (eqb kind 13)
    where
      go : (a b : Bool) → cond a true b ≡ true → cond a (q + 1 + cell rows q 6) (cond b (q + 1 + cell rows q 4) (q + 1)) ≡ q + 1 + cond a (cell rows q 6) (cond b (cell rows q 4) (cell rows q 3))
      go true b h = refl
      go false true h = refl
      go false false h = absurd (subst T (sym h) tt)

  -- a label has no row but its name's
  pub names-first : has_fields kind ≡ false → names_from kind rows q ≡ q + 1
  unfolding names_from
  names-first = go (eqb kind 10) (eqb kind 13)
    where
      go : (a b : Bool) → cond a true b ≡ false → cond a (q + 1 + cell rows q 6) (cond b (q + 1 + cell rows q 4) (q + 1)) ≡ q + 1
      go true b h = absurd (subst T h tt)
      go false true h = absurd (subst T h tt)
      go false false h = refl

-- ---- bytes

-- a section is its length, which counts its own two bytes, and its body
pub section-is : (kind : ℕ) (rows text : List ℕ) (q : ℕ) → printed_section kind rows text q ≡ little 2 (2 + length (printed_body kind rows text q)) ++ printed_body kind rows text q
unfolding printed_section printed_body
section-is kind rows text q = go (eqb kind 10) (eqb kind 13)
  where
    one : (b : List ℕ) → List ℕ
    one b = little 2 (2 + length b) ++ b

    go : (a b : Bool) → cond a (record_l.print (record_of rows text q)) (cond b (struct_l.print (struct_of rows text q)) (label_def.print (label_def_of rows text q))) ≡ one (cond a (printed_body 10 rows text q) (cond b (printed_body 13 rows text q) (printed_body 14 rows text q)))
    go true b = record_print all_tests D (record_of rows text q) refl
    go false true = struct_print all_tests D (struct_of rows text q) refl
    go false false = label_def-print all_tests (label_def_of rows text q) refl

-- a part of the text from s to s + l
pub part_end : (text : List ℕ) (s l : ℕ) → take (s + l - s) (drop s text) ≡ take l (drop s text)
part_end text s l = let e : s + l - s ≡ l = omega arith in rw e

-- ---- items one after the other

pub print-many : {A : Type 0} (c : Codec A) (next : ℕ → ℕ) (f : ℕ → A) (k q : ℕ) → times_print c (from next f q k) ≡ many next (λ p. c.print (f p)) q k
unfolding from many
print-many c next f zero q = refl
print-many c next f (suc k) q = ap (λ (l : List ℕ). c.print (f q) ++ l) (print-many c next f k (next q))

module _ (next : ℕ → ℕ) (f : ℕ → List ℕ) (q k : ℕ) where
  pub many-none : k ≤ 0 → many next f q k ≡ []
  unfolding many
  many-none h = let e : k ≡ 0 = omega arith in rw e

  pub many-next : 0 < k → many next f q k ≡ f q ++ many next f (next q) (k - 1)
  unfolding many
  many-next h = let e : k ≡ suc (k - 1) = omega arith in ap (many next f q) e

-- ---- the parts of the bodies

module _ (rows text : List ℕ) where
  pub fields-is : (q n : ℕ) → printed_fields rows text q n ≡ little 2 n ++ (many after (printed_entry rows) q n ++ many after (printed_name rows text) (q + n) n)
  fields-is q n =
      fields-print all_tests D (fields_of rows text q n)
      ∙ ap₂ (λ (m : ℕ) (l : List ℕ). little 2 m ++ l) (length_from after (entry_of rows) n q)
      (ap₂ ◌++◌ (print-many entry after (entry_of rows) n q) (print-many name after (name_of rows text) n (q + n)))

  record_is : (q : ℕ) → printed_body 10 rows text q ≡ printed_head rows q ++ (printed_name rows text q ++ printed_fields rows text (q + 1) (cell rows q 6))
  unfolding printed_body
  record_is q = record_body-print all_tests D (record_of rows text q)

  struct_is : (q : ℕ) → printed_body 13 rows text q ≡ little 2 (cell rows q 3) ++ (printed_name rows text q ++ printed_fields rows text (q + 1) (cell rows q 4))
  unfolding printed_body
  struct_is q = struct_body-print all_tests D (cell rows q 3) (name_of rows text q) (fields_of rows text (q + 1) (cell rows q 4))

  label_def_is : (q : ℕ) → printed_body 14 rows text q ≡ printed_name rows text q ++ printed_labels rows text (q + 1) (cell rows q 3)
  unfolding printed_body
  label_def_is q =
      label_body-print all_tests (name_of rows text q) (from after (label_of rows text) (q + 1) (cell rows q 3))
      ∙ ap₂ (λ (m : ℕ) (l : List ℕ). printed_name rows text q ++ (little 2 m ++ l)) (length_from after (label_of rows text) (cell rows q 3) (q + 1))
      (print-many label after (label_of rows text) (cell rows q 3) (q + 1))

-- a body is numbers, the name, and fields or labels
pub body_is : (kind : ℕ) (rows text : List ℕ) (q : ℕ) → printed_body kind rows text q ≡ printed_numbers kind rows q ++ (printed_name rows text q ++ printed_contents kind rows text q)
unfolding printed_body count_of
body_is kind rows text q = go (eqb kind 10) (eqb kind 13)
  where
    contents : (a b : Bool) → List ℕ
    contents a b =
        let n = cond a (cell rows q 6) (cond b (cell rows q 4) (cell rows q 3)) in
        cond (cond a true b) (printed_fields rows text (q + 1) n) (printed_labels rows text (q + 1) n)

    go : (a b : Bool) → cond a (printed_body 10 rows text q) (cond b (printed_body 13 rows text q) (printed_body 14 rows text q)) ≡ cond a (printed_head rows q) (cond b (little 2 (cell rows q 3)) []) ++ (printed_name rows text q ++ contents a b)
    go true b = record_is rows text q
    go false true = struct_is rows text q
    go false false = label_def_is rows text q

-- a group is its count and its sections
pub group_is : (kind : ℕ) (rows text : List ℕ) (q k : ℕ) → printed_group kind rows text q k ≡ little 2 k ++ many (next_section kind rows) (printed_section kind rows text) q k
unfolding printed_group
group_is kind rows text q k = refl

pub printed-is : (version : ℕ) (rows text : List ℕ) → printed version rows text ≡ print_layout all_tests D (tree_of version rows text)
unfolding printed
printed-is version rows text = refl

-- version, records, structs, label defs
pub layout_is : (version : ℕ) (rows text : List ℕ) → printed version rows text
    ≡ little 2 version ++ (printed_group 10 rows text 0 (kinds rows 10) ++ (printed_group 13 rows text (structs_from rows) (kinds rows 13) ++ printed_group 14 rows text (labels_from rows) (kinds rows 14)))
unfolding printed tree_of printed_group printed_section
layout_is version rows text =
    layout-print all_tests D (tree_of version rows text) refl
    ∙ ap₂ (λ (a b : List ℕ). little 2 version ++ (a ++ b))
    (ap₂ (λ (m : ℕ) (l : List ℕ). little 2 m ++ l) (length_from (next_section 10 rows) (record_of rows text) (kinds rows 10) 0) (print-many record_l (next_section 10 rows) (record_of rows text) (kinds rows 10) 0))
    (ap₂ ◌++◌
    (ap₂ (λ (m : ℕ) (l : List ℕ). little 2 m ++ l) (length_from (next_section 13 rows) (struct_of rows text) (kinds rows 13) (structs_from rows)) (print-many struct_l (next_section 13 rows) (struct_of rows text) (kinds rows 13) (structs_from rows)))
    (ap₂ (λ (m : ℕ) (l : List ℕ). little 2 m ++ l) (length_from (next_section 14 rows) (label_def_of rows text) (kinds rows 14) (labels_from rows)) (print-many label_def (next_section 14 rows) (label_def_of rows text) (kinds rows 14) (labels_from rows))))

-- ---- how many bytes

module _ (rows text : List ℕ) (q : ℕ) where
  pub name-is : cell rows q 1 + cell rows q 2 ≤ length text → printed_name rows text q ≡ cell rows q 2 % 256 ∷ (take (cell rows q 2) (drop (cell rows q 1) text) ++ (0 ∷ []))
  name-is h =
      let l : length (name_of rows text q).text ≡ cell rows q 2 = simp (length-take, length-drop) (omega arith) in
      name-print all_tests (name_of rows text q) ∙ ap (λ (n : ℕ). n % 256 ∷ ((name_of rows text q).text ++ (0 ∷ []))) l

  pub name-length : cell rows q 1 + cell rows q 2 ≤ length text → length (printed_name rows text q) ≡ cell rows q 2 + 2
  name-length h =
      let t = (name_of rows text q).text in
      let l : length t ≡ cell rows q 2 = simp (length-take, length-drop) (omega arith) in
      omega (arith, ap length (name-print all_tests (name_of rows text q)), length-append t (0 ∷ []))

module _ (rows text : List ℕ) where
  entries-length : (n q : ℕ) → length (many after (printed_entry rows) q n) ≡ D * n
  unfolding many
  entries-length zero q = omega arith
  entries-length (suc n) q =
      let e : length (printed_entry rows q) ≡ D =
      ap length (entry-print all_tests D (entry_of rows q)) ∙ length-append (entry_of rows q).head (entry_of rows q).skipped ∙ omega (arith, D-least, row-bytes-length rows (9 * q), length-replicate {A = ℕ} (D - 11) 0) in
      let m : D * suc n ≡ D + D * n = mul-suc D n ∙ omega arith in
      omega (arith, e, m, entries-length n (q + 1), length-append (printed_entry rows q) (many after (printed_entry rows) (q + 1) n))

  labels_length : (n q : ℕ) → length (many after (printed_label rows text) q n) ≡ 2 * n + length (many after (printed_name rows text) q n)
  unfolding many
  labels_length zero q = omega arith
  labels_length (suc n) q =
      omega (
        arith,
        ap length (label-print all_tests (label_of rows text q)),
        labels_length n (q + 1),
        length-append (printed_name rows text q) (many after (printed_name rows text) (q + 1) n),
        length-append (printed_label rows text q) (many after (printed_label rows text) (q + 1) n),
      )

  fields-length : (q n : ℕ) → length (printed_fields rows text q n) ≡ 2 + D * n + length (many after (printed_name rows text) (q + n) n)
  fields-length q n =
      omega (
        arith,
        ap length (fields-is rows text q n),
        entries-length n q,
        length-append (many after (printed_entry rows) q n) (many after (printed_name rows text) (q + n) n),
      )

  module _ (q : ℕ) (h : cell rows q 1 + cell rows q 2 ≤ length text) where
    pub record_length : length (printed_body 10 rows text q) ≡ cell rows q 2 + 18 + D * cell rows q 6 + length (many after (printed_name rows text) (q + 1 + cell rows q 6) (cell rows q 6))
    record_length =
        omega (
          arith,
          ap length (record_is rows text q),
          name-length rows text q h,
          fields-length (q + 1) (cell rows q 6),
          length-append (printed_name rows text q) (printed_fields rows text (q + 1) (cell rows q 6)),
        )

    pub struct_length : length (printed_body 13 rows text q) ≡ cell rows q 2 + 6 + D * cell rows q 4 + length (many after (printed_name rows text) (q + 1 + cell rows q 4) (cell rows q 4))
    struct_length =
        omega (
          arith,
          ap length (struct_is rows text q),
          name-length rows text q h,
          fields-length (q + 1) (cell rows q 4),
          length-append (printed_name rows text q) (printed_fields rows text (q + 1) (cell rows q 4)),
        )

    pub label_def_length : length (printed_body 14 rows text q) ≡ cell rows q 2 + 4 + 2 * cell rows q 3 + length (many after (printed_name rows text) (q + 1) (cell rows q 3))
    label_def_length =
        omega (
          arith,
          ap length (label_def_is rows text q),
          name-length rows text q h,
          labels_length (cell rows q 3) (q + 1),
          length-append (printed_name rows text q) (printed_labels rows text (q + 1) (cell rows q 3)),
        )

  -- the version takes two bytes, whichever it is
  pub printed-length : (version : ℕ) → length (printed version rows text) ≡ length (printed 0 rows text)
  printed-length version = ap length (layout_is version rows text) ∙ sym (ap length (layout_is 0 rows text))
