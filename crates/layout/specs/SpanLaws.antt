-- The texts of an accepted layout's rows lie within the layout. Assumes nothing.
use Rattle.std.specs.Prelude.{ℕ, ◌+◌, Bool, true, false, ◌&&◌, List, ◌∷◌, ◌++◌, map, length, leb}
use Rattle.std.proofs.Common.{arith}
use Rattle.std.proofs.Math.Path.{◌≡◌, refl, subst}
use Rattle.codec.specs.Codec.{Res, refuse, refusal, ok, Bytes, named, sized, times, distinct, ◌then◌}
use Rattle.table.specs.Table.{all_rows}
use Rattle.table.specs.EachLaws.{Each, each_append, each_map, each_all, RowInside, PartInside, part-inside}
use Rattle.wire.specs.Formats.{Name, name}
use Rattle.wire.specs.FormatLaws.{section-each, name-start}
use Rattle.layout.specs.Layout.{Fields, RecordL, StructL, LabelDef, Layout, from_layout, entry, fields, record_l, struct_l, label, label_def, parts, groups, read_layout, print_layout, locate_layout, EachName}
use Rattle.layout.specs.LayoutLaws.{print-parse}
use Rattle.wire.specs.Reader.{all_tests}
use Rattle.wire.specs.Formats.{Tests}
use Rattle.layout.specs.LayoutOf.{D, layout_of, layout_by}
use Rattle.layout.specs.Rows.{entry_row, name_row, field_rows, record_rows, struct_rows, label_row, label_def_rows, rows}

module _ (tests : Tests) (D : ℕ) where
  module _ (m : ℕ) where
    abbrev Good : List ℕ → Type 0
    Good = RowInside 10 15 m

    -- a name's row, of a kind from 10 to 15
    named-lies : (kind : ℕ) (r : List ℕ) (n : Name) → (leb 10 kind && leb kind 15) ≡ true → (name tests).codec.each (PartInside m) n → Good (kind ∷ n.start ∷ length n.text ∷ r)
    named-lies kind r n k h = record { kind = k; inside = λ _. name-start tests (PartInside m) n h }

    fields_lie : (f : Fields) → (fields tests D).codec.each (PartInside m) f → Each Good (field_rows f)
    unfolding fields named sized ◌then◌ times
    fields_lie f e =
        each_append Good (map entry_row f.entries) (map name_row f.names)
        (each_map (entry tests D).codec (PartInside m) Good entry_row (λ x h. record { kind = refl; inside = λ q. absurd (let z : ◌≡◌ {A = ℕ} 0 1 = cc in omega arith) }) f.entries e.0)
        (each_map (name tests).codec (PartInside m) Good name_row (λ n h. named-lies 12 _ n refl h) f.names e.1)

    record_lies : (r : RecordL) → (record_l tests D).codec.each (PartInside m) r → Each Good (record_rows r)
    unfolding record_l named ◌then◌
    record_lies r e = let h = section-each _ (PartInside m) _ e in (named-lies 10 _ r.name refl h.1.1.1.1.0, fields_lie r.fields h.1.1.1.1.1)

    struct_lies : (s : StructL) → (struct_l tests D).codec.each (PartInside m) s → Each Good (struct_rows s)
    unfolding struct_l named ◌then◌
    struct_lies s e = let h = section-each _ (PartInside m) _ e in (named-lies 13 _ s.name refl h.1.0, fields_lie s.fields h.1.1)

    label-lies : (d : LabelDef) → (label_def tests).codec.each (PartInside m) d → Each Good (label_def_rows d)
    unfolding label_def label named ◌then◌ sized distinct
    label-lies d e =
        let h = section-each _ (PartInside m) _ e in
        (named-lies 14 _ d.name refl h.0, each_map (label tests).codec (PartInside m) Good label_row (λ l g. named-lies 15 _ l.name refl g.1) d.labels h.1)

    -- every row is of kind 10 to 15, and its text, where it is no field, lies within the m bytes that the names lie in
    pub rows_lie : (t : Layout) → EachName tests D (PartInside m) t → Each (RowInside 10 15 m) (rows t)
    unfolding rows EachName parts groups sized times ◌then◌
    rows_lie t e =
        each_append Good (all_rows record_rows t.records ++ all_rows struct_rows t.structs) (all_rows label_def_rows t.labels)
        (each_append Good (all_rows record_rows t.records) (all_rows struct_rows t.structs)
        (each_all (record_l tests D).codec (PartInside m) Good record_rows record_lies t.records e.1.0)
        (each_all (struct_l tests D).codec (PartInside m) Good struct_rows struct_lies t.structs e.1.1.0))
        (each_all (label_def tests).codec (PartInside m) Good label_def_rows label-lies t.labels e.1.1.1)

  -- the rows of what is read lie within the bytes that were read
  pub read-lies : (b : List ℕ) (t : Layout) (j : ℕ) → Bytes b → read_layout tests D b ≡ ok t j → Each (RowInside 10 15 (length b)) (rows t)
  unfolding EachName print_layout locate_layout
  read-lies b t j bs e =
      let p = print-parse tests D b t j bs e in
      let h : EachName tests D (PartInside (length b)) (locate_layout tests D t) =
      (parts tests D).law.spotted (PartInside (length b)) 0 (from_layout t).0 (λ n u q. subst (λ v. PartInside (length v) (0 + n) u) p.bytes (part-inside t.rest q)) in
      rows_lie (length b) t (subst (EachName tests D (PartInside (length b))) p.located h)

-- the same of an accepted layout
pub layout-lies : (s : List ℕ) (t : Layout) (j : ℕ) → Bytes s → layout_of s ≡ ok t j → Each (RowInside 10 15 (length s)) (rows t)
unfolding layout_by
layout-lies s t j bs e = go (leb (length s) 4294967295) refl
  where
    go : (x : Bool) → leb (length s) 4294967295 ≡ x → Each (RowInside 10 15 (length s)) (rows t)
    go true q = read-lies all_tests D s t j bs (rw q at e)
    go false q = absurd (let y : ◌≡◌ {A = Res Layout} (refuse (refusal 13 0)) (ok t j) = (rw q at e) in let z : ◌≡◌ {A = ℕ} 0 1 = cc in omega arith)
