-- The bytes that a block prints, part by part, what its fields are, and that its places change no field, and no row but by its start. Assumes nothing.
use Rattle.std.specs.Prelude.{ℕ, ◌+◌, ◌≤◌, ◌≡◌, Bool, true, false, cond, List, ◌++◌, map, length}
use Rattle.std.proofs.Math.Nat.{zero-add}
use Rattle.std.proofs.Math.Path.{refl, ap₂}
use Rattle.std.proofs.Common.{sym, ap, ◌∙◌, append-nil}
use Rattle.std.proofs.lemmas.List.{length-map}
use Rattle.codec.specs.Codec.{little, raw, skip, num, named, checked, judged, sized, boxed, full, remainder, ◌then◌, ◌on◌}
use Rattle.codec.proofs.Laws.{part-take}
use Rattle.text.specs.Utf8.{utf8}
use Rattle.text.specs.Trim.{trimmed_len}
use Rattle.padded.specs.Padded.{nul_padded}
use Rattle.dates.specs.Date.{is_date}
use Rattle.wire.specs.Reader.{all_tests}
use Rattle.symbology_format.specs.Symbology.{Symbology, symbology}
use Rattle.symbology_format.specs.SymbologyRows.{symbology_rows}
use Rattle.symbology_format.proofs.NameLaws.{Stands}
use Rattle.symbology_format.proofs.PrintLaws.{symbol_texts, trimmed, name_in, no_start6}
use Rattle.symbology_format.proofs.PrintLaws as Symbols
use Rattle.layout.specs.Layout.{Layout, print_layout, locate_layout, LegalLayout, EachName}
use Rattle.layout.specs.LayoutOf.{D}
use Rattle.layout.specs.Rows.{rows}
use Rattle.layout.specs.RowLaws.{no_start}
use Rattle.layout.specs.TextLaws.{row_text}
use Rattle.layout.specs.PrintLaws.{located-version, reads}
use Rattle.layout.specs.PartsLaws.{printed-parts, located-parts, rows-still}
use Rattle.block_format.specs.Block.{Header, Block, header, width_of, no_items, layout_part, symbology_part, block}
use Rattle.block_format.specs.Fields.{schema_of, stype_in_of, limit_of, end_of, ts_out_of, fields_with, fields_of}
use Rattle.block_format.specs.Read.{sixes, nines}
use Rattle.block_format.proofs.SpanLaws.{symbology-each}
use Rattle.metadata_lengths.specs.declared.MetadataLengths.{MetadataLengths}

-- ---- what is printed

-- the header, field by field
pub header-print : (v : MetadataLengths) (h : Header) → (header v).codec.print h
    ≡ h.dataset ++ (little 2 h.schema ++ (little 8 h.start ++ (little 8 h.end ++ (little 8 h.limit ++ (h.count
    ++ (little 1 h.stype_in ++ (little 1 h.stype_out ++ (little 1 h.ts_out ++ (little v.symbol_cstr_len_len h.width ++ h.reserved)))))))))
unfolding header named ◌then◌ checked raw num skip
header-print v h = refl

-- a layout: its length and its bytes
pub layout-print : (sheet : List ℕ) (width : ℕ) (l : Layout) → (layout_part true sheet width).codec.print l ≡ little 4 (length (print_layout all_tests D l)) ++ print_layout all_tests D l
unfolding layout_part named judged boxed
layout-print sheet width l = rw (printed-parts all_tests D l, zero-add)

-- below version 4: the length of what is left over, and that
pub no-layout-print : (sheet : List ℕ) (width : ℕ) (l : Layout) → (layout_part false sheet width).codec.print l ≡ little 4 (length l.rest) ++ l.rest
unfolding layout_part named checked sized raw
no-layout-print sheet width l = refl

-- a symbology: its length and its bytes
pub names-print : (width : ℕ) (t : Symbology) → (symbology_part true width).codec.print t
    ≡ little 4 (length ((symbology utf8 nul_padded is_date width).codec.print t)) ++ (symbology utf8 nul_padded is_date width).codec.print t
unfolding symbology_part full boxed
names-print width t = rw (append-nil, zero-add)

-- below version 4: its bytes
pub rest-names-print : (width : ℕ) (t : Symbology) → (symbology_part false width).codec.print t ≡ (symbology utf8 nul_padded is_date width).codec.print t
unfolding symbology_part remainder
rest-names-print width t = refl

-- ---- the parts with their places

-- a symbology begins after its length, where it has one
names-located : (has : Bool) (width p : ℕ) (t : Symbology) → (symbology_part has width).codec.locate p t ≡ (symbology utf8 nul_padded is_date width).codec.locate (cond has (p + 4) p) t
unfolding symbology_part full boxed remainder
names-located true width p t = refl
names-located false width p t = refl

-- a layout has its places, and without one there are no items
layout-located : (has : Bool) (sheet : List ℕ) (width p : ℕ) (l : Layout) → (layout_part has sheet width).codec.locate p l ≡ cond has (locate_layout all_tests D l) (no_items l.rest)
unfolding layout_part named judged boxed checked sized raw
layout-located true sheet width p l = sym (located-parts all_tests D l)
layout-located false sheet width p l = refl

-- a header has no places
header-located : (v : MetadataLengths) (p : ℕ) (h : Header) → (header v).codec.locate p h ≡ h
unfolding header named ◌then◌ checked raw num skip
header-located v p h = refl

-- a layout that a version can have: one without items where it has no layout
abbrev pub Suits : Bool → Layout → Type 0
Suits has l = has ≡ false → l ≡ no_items l.rest

rows-kept : (has : Bool) (l : Layout) → Suits has l → map no_start (rows (cond has (locate_layout all_tests D l) (no_items l.rest))) ≡ map no_start (rows l)
rows-kept true l s = rows-still l
rows-kept false l s = ap (λ k. map no_start (rows k)) (sym (s refl))

version-kept : (has : Bool) (l : Layout) → Suits has l → (cond has (locate_layout all_tests D l) (no_items l.rest)).version ≡ l.version
version-kept true l s = located-version all_tests D l
version-kept false l s = ap (λ k. k.version) (sym (s refl))

-- ---- the fields

-- a block's, one by one
pub fields-are : (v : MetadataLengths) (b : Block) → let h = b.header in
    fields_of v b ≡ record {
      dataset_len = trimmed_len h.dataset;
      schema = schema_of h.schema;
      start = h.start;
      end = end_of h.end;
      limit = limit_of h.limit;
      stype_in = stype_in_of h.stype_in;
      stype_out = h.stype_out;
      ts_out = ts_out_of h.ts_out;
      symbol_cstr_len = width_of v h;
      layout_version = b.layout.version;
      symbology_rows = length (sixes b);
      layout_rows = length (nines b);
    }
unfolding fields_of fields_with
fields-are v b = refl

-- ---- all of it

-- rows that are the same but for what f leaves out are as many
same_length : (f : List ℕ → List ℕ) (rs qs : List (List ℕ)) → map f rs ≡ map f qs → length rs ≡ length qs
same_length f rs qs e = sym (length-map rs f) ∙ ap length e ∙ length-map qs f

module _ (sheet : List ℕ) (v : MetadataLengths) where
  -- header, layout, symbology
  pub block-print : (b : Block) → (block sheet v).codec.print b
      ≡ (header v).codec.print b.header ++ ((layout_part v.has_layout sheet (width_of v b.header)).codec.print b.layout ++ (symbology_part v.has_layout (width_of v b.header)).codec.print b.symbology)
  unfolding block named ◌on◌ ◌then◌
  block-print b = refl

  -- the block with its places
  abbrev pub located : Block → Block
  located b = (block sheet v).codec.locate 0 b

  -- where its symbology begins: after the header and the layout, and after its own length where it has one
  abbrev pub names_at : Block → ℕ
  names_at b =
      let p = length ((header v).codec.print b.header) + length ((layout_part v.has_layout sheet (width_of v b.header)).codec.print b.layout) in
      cond v.has_layout (p + 4) p

  -- its parts
  pub located-header : (b : Block) → (located b).header ≡ b.header
  unfolding block named ◌on◌ ◌then◌
  located-header b = header-located v 0 b.header

  pub located-layout : (b : Block) → (located b).layout ≡ cond v.has_layout (locate_layout all_tests D b.layout) (no_items b.layout.rest)
  unfolding block named ◌on◌ ◌then◌
  located-layout b = layout-located v.has_layout sheet (width_of v b.header) _ b.layout

  pub located-symbology : (b : Block) → (located b).symbology ≡ (symbology utf8 nul_padded is_date (width_of v b.header)).codec.locate (names_at b) b.symbology
  unfolding block named ◌on◌ ◌then◌
  located-symbology b = rw zero-add (names-located v.has_layout (width_of v b.header) _ b.symbology)

  -- ---- places change no field, and no row but by its start

  pub sixes-still : (b : Block) → map no_start6 (sixes (located b)) ≡ map no_start6 (sixes b)
  sixes-still b = ap (λ t. map no_start6 (symbology_rows t)) (located-symbology b) ∙ Symbols.rows-still utf8 nul_padded is_date (width_of v b.header) (names_at b) b.symbology

  pub nines-still : (b : Block) → Suits v.has_layout b.layout → map no_start (nines (located b)) ≡ map no_start (nines b)
  nines-still b s = ap (λ l. map no_start (rows l)) (located-layout b) ∙ rows-kept v.has_layout b.layout s

  pub version-still : (b : Block) → Suits v.has_layout b.layout → (located b).layout.version ≡ b.layout.version
  version-still b s = ap (λ l. l.version) (located-layout b) ∙ version-kept v.has_layout b.layout s

  pub fields-still : (b : Block) → Suits v.has_layout b.layout → fields_of v (located b) ≡ fields_of v b
  unfolding fields_of
  fields-still b s =
      ap₂ (λ h n. fields_with v h n (length (sixes (located b))) (length (nines (located b)))) (located-header b) (version-still b s)
      ∙ ap₂ (fields_with v b.header b.layout.version) (same_length no_start6 (sixes (located b)) (sixes b) (sixes-still b)) (same_length no_start (nines (located b)) (nines b) (nines-still b s))

  -- ---- what the rows name

  -- in the block's bytes each symbology row names its symbol without the NULs at its end
  pub sixes-texts : (b : Block) → map (name_in ((block sheet v).codec.print b)) (sixes (located b)) ≡ map trimmed (symbol_texts b.symbology)
  sixes-texts b =
      let w = width_of v (located b).header in
      let s = (block sheet v).codec.print b in
      let h : (block sheet v).codec.each (Stands s) (located b) = (block sheet v).law.spotted (Stands s) 0 b (λ n u q. rw (zero-add n) (part-take q)) in
      Symbols.rows-texts utf8 nul_padded is_date w s (located b).symbology (symbology-each sheet v (Stands s) (located b) h)
      ∙ ap (λ t. map trimmed (symbol_texts t)) (located-symbology b)
      ∙ ap (map trimmed) (Symbols.texts-still utf8 nul_padded is_date (width_of v b.header) (names_at b) b.symbology)

  -- in the layout's bytes each layout row names what it names in `area`, where the layout's names stand at their starts
  pub nines-texts : (b : Block) (area : List ℕ) → v.has_layout ≡ true → LegalLayout all_tests D b.layout → length (print_layout all_tests D b.layout) ≤ 4294967295
      → EachName all_tests D (Stands area) b.layout → map (row_text (print_layout all_tests D b.layout)) (nines (located b)) ≡ map (row_text area) (nines b)
  nines-texts b area has lg h each =
      let t = b.layout in
      ap (λ l. map (row_text (print_layout all_tests D t)) (rows l)) (located-layout b ∙ ap (λ x. cond x (locate_layout all_tests D t) (no_items t.rest)) has) ∙ (reads t area lg h each).same_texts
