-- Every name of the layout that well-formed rows stand for is the part of the text at its start. Assumes nothing.
use Prim.Native.Nat.{ℕ, zero, suc, ◌+◌, ◌≤◌, ◌<◌}
use Rattle.std.proofs.Common.{arith, length-take, length-drop}
use Rattle.std.specs.Prelude.{◌≡◌, List, length, take, drop}
use Rattle.codec.specs.Codec.{Codec, TimesEach}
use Rattle.wire.specs.Reader.{all_tests}
use Rattle.wire.specs.Reader.{name}
use Rattle.wire.specs.FormatLaws.{name-each}
use Rattle.layout.specs.LayoutOf.{D, fields, label, record_l, struct_l, label_def}
use Rattle.layout.specs.Layout.{EachName}
use Rattle.layout.specs.PrintLaws.{label-each, label_def-each, fields-each, struct_each, record_each, layout-each}
use Rattle.rows_check.specs.Tree.{cell, from, after, name_of, label_of, fields_of, record_of, struct_of, label_def_of, count_of, names_from, next_section, kinds, structs_from, labels_from, tree_of}
use Rattle.rows_check.specs.CheckLaws.{Formed}
use Rattle.rows_check.specs.Sections.{Spans, SectionRows, Sections}
use Rattle.rows_check.specs.SectionLaws.{record_sections, struct_sections, label_def_sections}

module _ (rows text : List ℕ) where
  -- u stands at place n of the text
  abbrev pub At : ℕ → List ℕ → Type 0
  At n u = take (length u) (drop n text) ≡ u

  name-at : (q : ℕ) → cell rows q 1 + cell rows q 2 ≤ length text → name.each At (name_of rows text q)
  name-at q h =
      let l : length (name_of rows text q).text ≡ cell rows q 2 = simp (length-take, length-drop) (omega arith) in
      name-each all_tests At (name_of rows text q) (rw l)

  each_from_lem : {A : Type 0} (c : Codec A) (f : ℕ → A) (k q : ℕ) → ((j : ℕ) → q ≤ j → j < q + k → c.each At (f j)) → TimesEach c At (from after f q k)
  unfolding from
  each_from_lem c f zero q h = tt
  each_from_lem c f (suc k) q h = (h q (omega arith) (omega arith), each_from_lem c f k (q + 1) (λ j a b. h j (omega arith) (omega arith)))

  fields_at : (q n : ℕ) → Spans rows text (q + n) n → fields.each At (fields_of rows text q n)
  fields_at q n s = fields-each all_tests D At (fields_of rows text q n) (each_from_lem name (name_of rows text) n (q + n) (λ j a b. name-at j (s j a b)))

  record_at : (q : ℕ) → SectionRows 10 rows text q → record_l.each At (record_of rows text q)
  unfolding count_of names_from
  record_at q s = record_each all_tests D At (record_of rows text q) (name-at q s.own) (fields_at (q + 1) (cell rows q 6) s.names)

  struct_at : (q : ℕ) → SectionRows 13 rows text q → struct_l.each At (struct_of rows text q)
  unfolding count_of names_from
  struct_at q s = struct_each all_tests D At (struct_of rows text q) (name-at q s.own) (fields_at (q + 1) (cell rows q 4) s.names)

  def_at : (q : ℕ) → SectionRows 14 rows text q → label_def.each At (label_def_of rows text q)
  unfolding count_of names_from
  def_at q s =
      label_def-each all_tests At (label_def_of rows text q) (name-at q s.own)
      (each_from_lem label (label_of rows text) (cell rows q 3) (q + 1) (λ j a b. label-each all_tests At (label_of rows text j) (name-at j (s.names j a b))))

  all-at : {A : Type 0} (c : Codec A) (kind : ℕ) (part : ℕ → A) → ((q : ℕ) → SectionRows kind rows text q → c.each At (part q))
      → (k q : ℕ) → Sections kind rows text q k → TimesEach c At (from (next_section kind rows) part q k)
  unfolding from Sections
  all-at c kind part h zero q s = tt
  all-at c kind part h (suc k) q s = (h q s.0, all-at c kind part h k (next_section kind rows q) s.1)

  pub tree-each : (version : ℕ) → Formed rows text → EachName all_tests D At (tree_of version rows text)
  unfolding tree_of
  tree-each version w =
      layout-each all_tests D At (tree_of version rows text)
      (all-at record_l 10 (record_of rows text) record_at (kinds rows 10) 0 (record_sections rows text w))
      (all-at struct_l 13 (struct_of rows text) struct_at (kinds rows 13) (structs_from rows) (struct_sections rows text w))
      (all-at label_def 14 (label_def_of rows text) def_at (kinds rows 14) (labels_from rows) (label_def_sections rows text w))
