-- The text of a row is the part of the bytes that it names, and skipped bytes change no row's text. Assumes nothing.
use Rattle.std.specs.Prelude.{ℕ, ◌≡◌, refl, Bool, true, false, length, get_or, take, drop, eqb}
use Rattle.std.proofs.Common.{sym, ◌∙◌}
use Rattle.std.proofs.Math.Path.{ap, ap₂}
use mathlib.Core.List.{List, [], ◌∷◌, ◌++◌, map, map-append}
use Rattle.codec.specs.Codec.{◌then◌, ok, Bytes, Codec, num, named, sized, times, times_bare, TimesEach, distinct}
use Rattle.wire.specs.Formats.{Tests}
use Rattle.wire.specs.Formats.{name}
use Rattle.wire.specs.FormatLaws.{section-bare, section-each, name-bare, name-start}
use Rattle.layout.specs.Layout.{Fields, RecordL, StructL, LabelDef, Layout, entry, fields, record_l, struct_l, label, label_def, parts, groups, read_layout, print_layout, locate_layout, bare_layout, FitsLayout, EachName}
use Rattle.layout.specs.LayoutLaws.{spots, skipped-free, layout-octets, swap-legal}
use Rattle.layout.specs.Rows.{entry_row, name_row, field_rows, record_rows, struct_rows, label_row, label_def_rows, rows}
use Rattle.table.specs.Table.{flat}

abbrev text_if : Bool → List ℕ → List ℕ
text_if true t = []
text_if false t = t

-- the text that a row names in b: a field has none
abbrev pub row_text : List ℕ → List ℕ → List ℕ
row_text b r = text_if (eqb (get_or r 0 0) 11) (take (get_or r 2 0) (drop (get_or r 1 0) b))

-- the texts of a layout, row by row
abbrev pub field_texts : Fields → List (List ℕ)
field_texts f = map (λ _. []) f.entries ++ map (λ n. n.text) f.names

abbrev pub record_texts : RecordL → List (List ℕ)
record_texts r = r.name.text ∷ field_texts r.fields

abbrev pub struct_texts : StructL → List (List ℕ)
struct_texts s = s.name.text ∷ field_texts s.fields

abbrev pub label_texts : LabelDef → List (List ℕ)
label_texts d = d.name.text ∷ map (λ l. l.name.text) d.labels

unfoldable pub texts : Layout → List (List ℕ)
texts t = flat (map record_texts t.records) ++ flat (map struct_texts t.structs) ++ flat (map label_texts t.labels)

module _ {A : Type 0} (c : Codec A) where
  map-bare : (f : A → List ℕ) → ((x : A) → f x ≡ f (c.bare x)) → (xs : List A) → map f xs ≡ map f (times_bare c xs)
  map-bare f h [] = refl
  map-bare f h (x ∷ xs) = ap₂ ◌∷◌ (h x) (map-bare f h xs)

  flat-bare : (f : A → List (List ℕ)) → ((x : A) → f x ≡ f (c.bare x)) → (xs : List A) → flat (map f xs) ≡ flat (map f (times_bare c xs))
  flat-bare f h [] = refl
  flat-bare f h (x ∷ xs) = ap₂ ◌++◌ (h x) (flat-bare f h xs)

  module _ (b : List ℕ) (P : ℕ → List ℕ → Type 0) where
    map_each : (row : A → List ℕ) (f : A → List ℕ) → ((x : A) → c.each P x → row_text b (row x) ≡ f x) → (xs : List A) → TimesEach c P xs → map (row_text b) (map row xs) ≡ map f xs
    map_each row f h [] e = refl
    map_each row f h (x ∷ xs) e = ap₂ ◌∷◌ (h x e.0) (map_each row f h xs e.1)

    flat-each : (row : A → List (List ℕ)) (f : A → List (List ℕ)) → ((x : A) → c.each P x → map (row_text b) (row x) ≡ f x)
        → (xs : List A) → TimesEach c P xs → map (row_text b) (flat (map row xs)) ≡ flat (map f xs)
    flat-each row f h [] e = refl
    flat-each row f h (x ∷ xs) e = map-append (row_text b) (row x) (flat (map row xs)) ∙ ap₂ ◌++◌ (h x e.0) (flat-each row f h xs e.1)

module _ (tests : Tests) (D : ℕ) where
  fields-bare : (f : Fields) → field_texts f ≡ field_texts ((fields tests D).codec.bare f)
  unfolding fields named sized ◌then◌ times
  fields-bare f =
      ap₂ ◌++◌ (map-bare (entry tests D).codec (λ _. []) (λ e. refl) f.entries)
      (map-bare (name tests).codec (λ n. n.text) (λ n. ap (λ v. v.text) (sym (name-bare tests n))) f.names)

  record_bare : (r : RecordL) → record_texts r ≡ record_texts ((record_l tests D).codec.bare r)
  unfolding record_l named ◌then◌ num
  record_bare r = rw (section-bare, name-bare tests r.name) (ap (λ v. r.name.text ∷ v) (fields-bare r.fields))

  struct_bare : (s : StructL) → struct_texts s ≡ struct_texts ((struct_l tests D).codec.bare s)
  unfolding struct_l named ◌then◌ num
  struct_bare s = rw (section-bare, name-bare tests s.name) (ap (λ v. s.name.text ∷ v) (fields-bare s.fields))

  label-bare : (d : LabelDef) → label_texts d ≡ label_texts ((label_def tests).codec.bare d)
  unfolding label_def label named ◌then◌ num sized distinct
  label-bare d =
      rw (section-bare, name-bare tests d.name)
      (ap (λ v. d.name.text ∷ v) (map-bare (label tests).codec (λ l. l.name.text) (λ l. ap (λ v. v.text) (sym (name-bare tests l.name))) d.labels))

  pub texts-bare : (t : Layout) → texts t ≡ texts (bare_layout tests D t)
  unfolding texts bare_layout parts groups sized times ◌then◌
  texts-bare t = ap₂ ◌++◌ (ap₂ ◌++◌ (flat-bare (record_l tests D).codec record_texts record_bare t.records) (flat-bare (struct_l tests D).codec struct_texts struct_bare t.structs))
      (flat-bare (label_def tests).codec label_texts label-bare t.labels)

  module _ (b : List ℕ) where
    abbrev At : ℕ → List ℕ → Type 0
    At n u = take (length u) (drop n b) ≡ u

    fields-each : (f : Fields) → (fields tests D).codec.each At f → map (row_text b) (field_rows f) ≡ field_texts f
    unfolding fields named sized ◌then◌ times
    fields-each f e =
        map-append (row_text b) (map entry_row f.entries) (map name_row f.names)
        ∙ ap₂ ◌++◌ (map_each (entry tests D).codec b At entry_row (λ _. []) (λ x h. refl) f.entries e.0)
        (map_each (name tests).codec b At name_row (λ n. n.text) (λ n h. name-start tests At n h) f.names e.1)

    record_each : (r : RecordL) → (record_l tests D).codec.each At r → map (row_text b) (record_rows r) ≡ record_texts r
    unfolding record_l named ◌then◌
    record_each r e = let h = section-each _ At _ e in ap₂ ◌∷◌ (name-start tests At r.name h.1.1.1.1.0) (fields-each r.fields h.1.1.1.1.1)

    struct_each : (s : StructL) → (struct_l tests D).codec.each At s → map (row_text b) (struct_rows s) ≡ struct_texts s
    unfolding struct_l named ◌then◌
    struct_each s e = let h = section-each _ At _ e in ap₂ ◌∷◌ (name-start tests At s.name h.1.0) (fields-each s.fields h.1.1)

    label-each : (d : LabelDef) → (label_def tests).codec.each At d → map (row_text b) (label_def_rows d) ≡ label_texts d
    unfolding label_def label named ◌then◌ sized distinct
    label-each d e =
        let h = section-each _ At _ e in
        ap₂ ◌∷◌ (name-start tests At d.name h.0) (map_each (label tests).codec b At label_row (λ l. l.name.text) (λ l g. name-start tests At l.name g.1) d.labels h.1)

    pub texts-each : (t : Layout) → EachName tests D At t → map (row_text b) (rows t) ≡ texts t
    unfolding rows texts EachName parts groups sized times ◌then◌
    texts-each t e =
        map-append (row_text b) (flat (map record_rows t.records) ++ flat (map struct_rows t.structs)) (flat (map label_def_rows t.labels))
        ∙ ap₂ ◌++◌
        (map-append (row_text b) (flat (map record_rows t.records)) (flat (map struct_rows t.structs))
        ∙ ap₂ ◌++◌ (flat-each (record_l tests D).codec b At record_rows record_texts record_each t.records e.1.0)
        (flat-each (struct_l tests D).codec b At struct_rows struct_texts struct_each t.structs e.1.1.0))
        (flat-each (label_def tests).codec b At label_def_rows label_texts label-each t.labels e.1.1.1)

  -- what a row names in the bytes is its name's text
  pub row-texts : (b : List ℕ) (t : Layout) (j : ℕ) → Bytes b → read_layout tests D b ≡ ok t j → map (row_text b) (rows t) ≡ texts t
  row-texts b t j bs e = texts-each b t (spots tests D b t j bs e)

  -- (c) for texts
  pub skipped-texts : (b : List ℕ) (t t' : Layout) (j : ℕ) → Bytes b → read_layout tests D b ≡ ok t j
      → bare_layout tests D t ≡ bare_layout tests D t' → FitsLayout tests D t'
      → map (row_text (print_layout tests D t')) (rows (locate_layout tests D t')) ≡ map (row_text b) (rows t)
  skipped-texts b t t' j bs e same f =
      let r = skipped-free tests D b t t' j bs e same f in
      let bs' = layout-octets tests D t' (swap-legal tests D b t t' j bs e same f) in
      row-texts _ _ _ bs' r.accepted ∙ texts-bare (locate_layout tests D t') ∙ ap texts r.same ∙ sym (texts-bare t) ∙ sym (row-texts b t j bs e)
