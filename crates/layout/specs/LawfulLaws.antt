-- The bytes of each part of a layout with what is left over in it, and what is known of parts that have bytes. Assumes nothing.
use Rattle.std.specs.Prelude.{ℕ, ◌+◌, ◌-◌, ◌<◌, ◌≡◌, length}
use Rattle.std.proofs.Math.Path.{refl}
use mathlib.Core.List.{List, [], ◌++◌}
use Rattle.std.proofs.Common.{le-leb}
use Rattle.codec.specs.Codec.{ok, ◌then◌, Bytes, little, padded, num, named, sized, times, times_print, TimesLegal, distinct}
use Rattle.codec.proofs.Laws.{distinct-all}
use Rattle.wire.specs.Formats.{Tests, name}
use Rattle.wire.specs.Reader.{all_tests}
use Rattle.wire.specs.FormatLaws.{section-bytes, section-lawful}
use Rattle.layout.specs.Layout.{Entry, Fields, RecordL, StructL, Label, LabelDef, Layout, entry, fields, record_l, struct_l, label, label-code, label_body, label_def, record_body, struct_body, parts, groups, print_layout, LegalLayout}
use Rattle.layout.specs.LayoutOf.{D, layout_of, layout_by}
use Rattle.layout.specs.LayoutLaws.{Parsed, print-parse}
use Rattle.layout.specs.PlaceLaws.{layout-at}
use Rattle.layout.specs.PrintLaws.{record_parts}

-- a section is its length, its contents and what is left over
abbrev pub in_section : List ℕ → List ℕ → List ℕ
in_section body rest = little 2 (2 + length (body ++ rest)) ++ (body ++ rest)

module _ (tests : Tests) where
  module _ (d : LabelDef) where
    abbrev pub label_def_body : List ℕ
    label_def_body = (label_body tests).codec.print (d.name, d.labels)

    pub label_def-bytes : (label_def tests).codec.print d ≡ in_section label_def_body d.rest
    unfolding label_def named
    label_def-bytes = section-bytes (label_body tests) (d.name, d.labels) d.rest

    pub record LawfulLabelDef : Type 0 where
      pub name : (name tests).codec.legal d.name
      pub count : length d.labels < 65536
      pub labels : TimesLegal (label tests).codec d.labels
      pub size : 2 + length (label_def_body ++ d.rest) < 65536

  pub label_def-lawful : (d : LabelDef) → (label_def tests).codec.legal d → LawfulLabelDef d
  unfolding label_def named ◌then◌ sized distinct
  label_def-lawful d lg =
      let s = section-lawful (label_body tests) (d.name, d.labels) d.rest lg in
      record { name = s.0.0; count = s.0.1.0; labels = distinct-all (label tests).codec (label tests).law (λ l. l.code) 55 (label-code tests) d.labels [] s.0.1.1.1; size = s.1 }

  pub label-lawful : (l : Label) → (label tests).codec.legal l → (l.code < 65536) × (name tests).codec.legal l.name
  unfolding label named ◌then◌ num
  label-lawful l lg = lg

  module _ (D : ℕ) where
    pub record LawfulEntry (e : Entry) : Type 0 where
      pub eleven : length e.head ≡ 11
      pub octets : Bytes e.head
      pub others : length e.skipped ≡ D - 11

    pub entry-lawful : (e : Entry) → (entry tests D).codec.legal e → LawfulEntry e
    unfolding entry named padded
    entry-lawful e lg = record { eleven = lg.0; octets = lg.1; others = lg.2 }

    pub record LawfulFields (f : Fields) : Type 0 where
      pub count : length f.entries < 65536
      pub even : length f.names ≡ length f.entries
      pub entries : TimesLegal (entry tests D).codec f.entries
      pub names : TimesLegal (name tests).codec f.names

    pub fields-lawful : (f : Fields) → (fields tests D).codec.legal f → LawfulFields f
    unfolding fields named sized ◌then◌ times
    fields-lawful f lg = record { count = lg.0; even = lg.1.1.0; entries = lg.1.0.1; names = lg.1.1.1 }

    module _ (s : StructL) where
      abbrev pub struct_inside : List ℕ
      struct_inside = (struct_body tests D).codec.print (s.size, (s.name, s.fields))

      pub struct_bytes : (struct_l tests D).codec.print s ≡ in_section struct_inside s.rest
      unfolding struct_l named
      struct_bytes = section-bytes (struct_body tests D) (s.size, (s.name, s.fields)) s.rest

      pub record LawfulStruct : Type 0 where
        pub own : s.size < 65536
        pub name : (name tests).codec.legal s.name
        pub fields : (fields tests D).codec.legal s.fields
        pub size : 2 + length (struct_inside ++ s.rest) < 65536

    pub struct_lawful : (s : StructL) → (struct_l tests D).codec.legal s → LawfulStruct s
    unfolding struct_l named ◌then◌ num
    struct_lawful s lg =
        let b = section-lawful (struct_body tests D) (s.size, (s.name, s.fields)) s.rest lg in
        record { own = b.0.0; name = b.0.1.0; fields = b.0.1.1; size = b.1 }

    module _ (r : RecordL) where
      abbrev pub record_inside : List ℕ
      record_inside = (record_body tests D).codec.print (record_parts tests D r)

      pub record_bytes : (record_l tests D).codec.print r ≡ in_section record_inside r.rest
      unfolding record_l named
      record_bytes = section-bytes (record_body tests D) (record_parts tests D r) r.rest

      pub record LawfulRecord : Type 0 where
        pub rtype : r.rtype < 65536
        pub schema : r.schema < 65536
        pub base : r.base < 65536
        pub hash : r.hash < 18446744073709551616
        pub name : (name tests).codec.legal r.name
        pub fields : (fields tests D).codec.legal r.fields
        pub size : 2 + length (record_inside ++ r.rest) < 65536

    pub record_lawful : (r : RecordL) → (record_l tests D).codec.legal r → LawfulRecord r
    unfolding record_l named ◌then◌ num
    record_lawful r lg =
        let b = section-lawful (record_body tests D) (record_parts tests D r) r.rest lg in
        record { rtype = b.0.0; schema = b.0.1.0; base = b.0.1.1.0; hash = b.0.1.1.1.0; name = b.0.1.1.1.1.0; fields = b.0.1.1.1.1.1; size = b.1 }

    module _ (t : Layout) where
      -- a layout's bytes: the version, each group after its count, and what is left over
      pub layout-bytes : print_layout tests D t
          ≡ (little 2 t.version ++ ((little 2 (length t.records) ++ times_print (record_l tests D).codec t.records) ++ ((little 2 (length t.structs) ++ times_print (struct_l tests D).codec t.structs) ++ (little 2 (length t.labels) ++ times_print (label_def tests).codec t.labels)))) ++ t.rest
      unfolding print_layout parts groups ◌then◌ sized times num
      layout-bytes = refl

      pub record LawfulLayout : Type 0 where
        pub version : t.version < 65536
        pub records-count : length t.records < 65536
        pub records : TimesLegal (record_l tests D).codec t.records
        pub structs-count : length t.structs < 65536
        pub structs : TimesLegal (struct_l tests D).codec t.structs
        pub labels-count : length t.labels < 65536
        pub labels : TimesLegal (label_def tests).codec t.labels

    pub layout-lawful : (t : Layout) → LegalLayout tests D t → LawfulLayout t
    unfolding LegalLayout parts groups ◌then◌ sized times num
    layout-lawful t lg = record {
      version = lg.0.0;
      records-count = lg.0.1.0.0;
      records = lg.0.1.0.1.1;
      structs-count = lg.0.1.1.0.0;
      structs = lg.0.1.1.0.1.1;
      labels-count = lg.0.1.1.1.0;
      labels = lg.0.1.1.1.1.1;
    }

-- a layout that is accepted has bytes, and they are what was read
pub layout_parsed : (s : List ℕ) (t : Layout) (j : ℕ) → Bytes s → layout_of s ≡ ok t j → Parsed all_tests D s t
unfolding layout_by
layout_parsed s t j bs e = print-parse all_tests D s t j bs (rw (le-leb (length s) 4294967295 (layout-at s t j e).small) at e)
