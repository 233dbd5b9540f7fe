-- Rows without their starts are the rows of the bare layout: so skipped bytes change no row but by its start. Assumes nothing.
use Rattle.std.specs.Prelude.{ℕ, ◌/◌, ◌%◌, ◌≡◌, refl, Bool, true, false, eqb}
use Rattle.std.proofs.Common.{sym, ◌∙◌}
use Rattle.std.proofs.Math.Path.{ap, ap₂}
use mathlib.Core.List.{List, [], ◌∷◌, ◌++◌, map, map-append}
use Rattle.std.proofs.Math.ListN.{length}
use Rattle.codec.specs.Codec.{◌then◌, ok, Bytes, Codec, padded, num, named, sized, times, times_bare, distinct}
use Rattle.wire.specs.Formats.{Tests}
use Rattle.codec.proofs.Laws.{length-bare}
use Rattle.wire.specs.Formats.{name}
use Rattle.wire.specs.FormatLaws.{section-bare, name-bare}
use Rattle.layout.specs.Layout.{Fields, RecordL, StructL, LabelDef, Layout, entry, fields, record_l, struct_l, label, label_def, parts, groups, read_layout, locate_layout, bare_layout, FitsLayout}
use Rattle.table.specs.Table.{flat}
use Rattle.layout.specs.LayoutLaws.{skipped-free}
use Rattle.layout.specs.Rows.{entry_row, name_row, field_rows, record_rows, struct_rows, label_row, label_def_rows, rows}

abbrev keep : Bool → ℕ → ℕ
keep true s = s
keep false s = 0

-- every row but a field's has a start in its second number
abbrev pub no_start : List ℕ → List ℕ
no_start [] = []
no_start (k ∷ []) = k ∷ []
no_start (k ∷ s ∷ r) = k ∷ keep (eqb k 11) s ∷ r

module _ {A : Type 0} (c : Codec A) where
  map-bare : (row : A → List ℕ) → ((x : A) → no_start (row x) ≡ row (c.bare x)) → (xs : List A) → map no_start (map row xs) ≡ map row (times_bare c xs)
  map-bare row h [] = refl
  map-bare row h (x ∷ xs) = ap₂ ◌∷◌ (h x) (map-bare row h xs)

  flat-bare : (f : A → List (List ℕ)) → ((x : A) → map no_start (f x) ≡ f (c.bare x)) → (xs : List A) → map no_start (flat (map f xs)) ≡ flat (map f (times_bare c xs))
  flat-bare f h [] = refl
  flat-bare f h (x ∷ xs) = map-append no_start (f x) (flat (map f xs)) ∙ ap₂ ◌++◌ (h x) (flat-bare f h xs)

module _ (tests : Tests) (D : ℕ) where
  fields-bare : (f : Fields) → map no_start (field_rows f) ≡ field_rows ((fields tests D).codec.bare f)
  unfolding fields named sized ◌then◌ times entry padded
  fields-bare f =
      map-append no_start (map entry_row f.entries) (map name_row f.names)
      ∙ ap₂ ◌++◌ (map-bare (entry tests D).codec entry_row (λ e. refl) f.entries) (map-bare (name tests).codec name_row (λ n. ap name_row (sym (name-bare tests n))) f.names)

  record_bare : (r : RecordL) → map no_start (record_rows r) ≡ record_rows ((record_l tests D).codec.bare r)
  unfolding record_l named ◌then◌ num fields sized times
  record_bare r =
      rw (section-bare, name-bare tests r.name)
      (ap₂ (λ m rs. (10 ∷ 0 ∷ length r.name.text ∷ r.rtype ∷ r.schema ∷ r.base ∷ m ∷ r.hash % 4294967296 ∷ r.hash / 4294967296 ∷ []) ∷ rs)
      (sym (length-bare _ (entry tests D).law r.fields.entries)) (fields-bare r.fields))

  struct_bare : (s : StructL) → map no_start (struct_rows s) ≡ struct_rows ((struct_l tests D).codec.bare s)
  unfolding struct_l named ◌then◌ num fields sized times
  struct_bare s =
      rw (section-bare, name-bare tests s.name)
      (ap₂ (λ m rs. (13 ∷ 0 ∷ length s.name.text ∷ s.size ∷ m ∷ 0 ∷ 0 ∷ 0 ∷ 0 ∷ []) ∷ rs)
      (sym (length-bare _ (entry tests D).law s.fields.entries)) (fields-bare s.fields))

  label-bare : (d : LabelDef) → map no_start (label_def_rows d) ≡ label_def_rows ((label_def tests).codec.bare d)
  unfolding label_def label named ◌then◌ num sized distinct
  label-bare d =
      rw (section-bare, name-bare tests d.name)
      (ap₂ (λ m rs. (14 ∷ 0 ∷ length d.name.text ∷ m ∷ 0 ∷ 0 ∷ 0 ∷ 0 ∷ 0 ∷ []) ∷ rs)
      (sym (length-bare _ (label tests).law d.labels)) (map-bare (label tests).codec label_row (λ l. rw (name-bare tests l.name)) d.labels))

  pub rows-bare : (t : Layout) → map no_start (rows t) ≡ rows (bare_layout tests D t)
  unfolding rows bare_layout parts groups sized times ◌then◌
  rows-bare t =
      map-append no_start (flat (map record_rows t.records) ++ flat (map struct_rows t.structs)) (flat (map label_def_rows t.labels))
      ∙ ap₂ ◌++◌
      (map-append no_start (flat (map record_rows t.records)) (flat (map struct_rows t.structs))
      ∙ ap₂ ◌++◌ (flat-bare (record_l tests D).codec record_rows record_bare t.records) (flat-bare (struct_l tests D).codec struct_rows struct_bare t.structs))
      (flat-bare (label_def tests).codec label_def_rows label-bare t.labels)

  -- (c) for rows: skipped bytes change no row but by its start
  pub skipped-rows : (b : List ℕ) (t t' : Layout) (j : ℕ) → Bytes b → read_layout tests D b ≡ ok t j
      → bare_layout tests D t ≡ bare_layout tests D t' → FitsLayout tests D t'
      → map no_start (rows (locate_layout tests D t')) ≡ map no_start (rows t)
  skipped-rows b t t' j bs e same f =
      rows-bare (locate_layout tests D t') ∙ ap rows (skipped-free tests D b t t' j bs e same f).same ∙ sym (rows-bare t)
