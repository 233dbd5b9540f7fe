-- The block, as document 01's "Bytes on the wire" has it: the tree that keeps every byte, and one format for versions 1 to 4.
-- Assumes nothing.
use Rattle.std.specs.Prelude.{ℕ, zero, suc, ◌≡◌, refl, Bool, true, false, ◌||◌, List, [], length, leb, eqb}
use Rattle.std.proofs.Common.{ap}
use Rattle.codec.specs.Codec
use Rattle.codec.specs.Codec.{Res, ◌>>=◌, need, whole, is_nil}
use Rattle.codec.proofs.Format.{Format, raw, num, skip, raw_tests, num_test, ◌then◌, on, named, checked, judged, sized, apart, spanned, remainder}
use Rattle.text.specs.Utf8.{utf8}
use Rattle.wire.specs.Reader.{all_tests}
use Rattle.padded.specs.Padded.{nul_padded}
use Rattle.dates.specs.Date.{is_date}
use Rattle.prelude.specs.Prelude.{is_version}
use Rattle.layout.specs.Layout.{Layout, Parts, parts, to_layout, from_layout}
use Rattle.layout.specs.LayoutOf.{D}
use Rattle.layout.specs.LayoutLaws.{parts-some}
use Rattle.symbology_format.specs.Symbology.{Symbology, symbology, unspanned}
use Rattle.rules.specs.Rules.{rules_of}
use Rattle.rules.specs.RuleLaws.{rules_blind}
use Rattle.metadata_lengths.specs.Lengths.{lengths}
use Rattle.metadata_lengths.specs.declared.MetadataLengths.{MetadataLengths}

-- ---- the tree

pub record Header : Type 0 where
  pub dataset : List ℕ
  pub schema : ℕ
  pub start : ℕ
  pub end : ℕ
  pub limit : ℕ
  pub count : List ℕ
  pub stype_in : ℕ
  pub stype_out : ℕ
  pub ts_out : ℕ
  pub width : ℕ
  pub reserved : List ℕ

-- below version 4 the layout has version 0 and no items
pub record Block : Type 0 where
  pub header : Header
  pub layout : Layout
  pub symbology : Symbology

-- ---- accepted codes

-- schema 0 to 19, or 65535 for none
abbrev pub is_schema : ℕ → Bool
is_schema n = leb n 19 || eqb n 65535

-- stype 0 to 12
abbrev pub is_stype : ℕ → Bool
is_stype n = leb n 12

-- stype_in may be 255, for none
abbrev pub is_stype_in : ℕ → Bool
is_stype_in n = is_stype n || eqb n 255

-- ---- the formats

-- dataset text, schema u16, start, end, limit (u64 each), record count, stype_in, stype_out, ts_out, symbol width, reserved
abbrev pub to_header : List ℕ × (ℕ × (ℕ × (ℕ × (ℕ × (List ℕ × (ℕ × (ℕ × (ℕ × (ℕ × List ℕ))))))))) → Header
to_header z = let (d, (s, (b, (e, (l, (c, (i, (o, (t, (w, r)))))))))) = z in
    record { dataset = d; schema = s; start = b; end = e; limit = l; count = c; stype_in = i; stype_out = o; ts_out = t; width = w; reserved = r }

abbrev pub from_header : Header → List ℕ × (ℕ × (ℕ × (ℕ × (ℕ × (List ℕ × (ℕ × (ℕ × (ℕ × (ℕ × List ℕ)))))))))
from_header h = (h.dataset, (h.schema, (h.start, (h.end, (h.limit, (h.count, (h.stype_in, (h.stype_out, (h.ts_out, (h.width, h.reserved))))))))))

unfoldable pub header : MetadataLengths → Format Header false
header v = named to_header from_header (λ x. refl)
    (raw_tests utf8 20 nul_padded 29 13 v.dataset_cstr_len  -- dataset text
    then num_test is_schema 21 13 2  -- schema u16
    then num 13 8  -- start
    then num 13 8  -- end
    then num 13 8  -- limit
    then skip 13 v.record_count_len  -- record count, version 1 only
    then num_test is_stype_in 22 13 1  -- stype_in
    then num_test is_stype 23 13 1  -- stype_out
    then num 13 1  -- ts_out
    then num 13 v.symbol_cstr_len_len  -- symbol width u16, not in version 1
    then skip 13 v.reserved_len)  -- reserved

-- a version without a symbol width has 22
abbrev pub or_v1 : ℕ → ℕ → ℕ
or_v1 zero w = 22
or_v1 (suc n) w = w

abbrev pub width_of : MetadataLengths → Header → ℕ
width_of v h = or_v1 v.symbol_cstr_len_len h.width

-- a layout without items: its bytes are what is left over
abbrev pub no_items : List ℕ → Layout
no_items b = to_layout ((0, ([], ([], []))), b)

-- u32 layout length (24 where it is missing, 26 where it is 0) and that many bytes, 44 where they run past the end
abbrev pub layout_box : Format (Parts × List ℕ) false
layout_box = apart 24 26 44 4 1 (parts all_tests D) (parts-some all_tests D)

pub layout_blind : (sheet : List ℕ) (width : ℕ) (z : Parts × List ℕ) → rules_of sheet width (layout_box.codec.bare z).0 ≡ rules_of sheet width z.0
unfolding Codec.boxed
layout_blind sheet width z = rules_blind sheet width z.0

-- the same length and bytes as they are
pub raw-fits : (n : ℕ) (x : List ℕ) → (Codec.raw 44 n).legal x → length x ≡ n
unfolding Codec.raw
raw-fits n x lg = lg.0

pub raw_same : (n : ℕ) (x : List ℕ) → length ((Codec.raw 44 n).bare x) ≡ length x
unfolding Codec.raw
raw_same n x = refl

abbrev pub bytes : Format (List ℕ) false
bytes = sized 24 4 length (raw 44) raw-fits raw_same

pub bytes_blind : (x : List ℕ) → is_nil (bytes.codec.bare x) ≡ is_nil x
unfolding Codec.sized Codec.raw
bytes_blind x = refl

-- version 4: read and ruled on. Below: 25 where there are any bytes
unfoldable pub layout_part : Bool → List ℕ → ℕ → Format Layout false
layout_part true sheet width = named to_layout from_layout (λ x. refl) (judged (λ z. rules_of sheet width z.0) layout_box (layout_blind sheet width))
layout_part false sheet width = named no_items (λ l. l.rest) (λ x. refl) (checked is_nil 25 bytes bytes_blind)

-- version 4: u32 symbology length (27 where it is missing) and that many bytes, 45 where they run past the end, 28 where the contents do not span them;
-- below: the rest
unfoldable pub symbology_part : Bool → ℕ → Format Symbology false
symbology_part true width = spanned unspanned 27 45 4 (symbology utf8 nul_padded is_date width)
symbology_part false width = remainder (symbology utf8 nul_padded is_date width)

abbrev pub to_block : Header × (Layout × Symbology) → Block
to_block z = record { header = z.0; layout = z.1.0; symbology = z.1.1 }

abbrev pub body : List ℕ → MetadataLengths → ℕ → Format (Layout × Symbology) false
body sheet v width = layout_part v.has_layout sheet width then symbology_part v.has_layout width

pub header-width : (v : MetadataLengths) (h : Header) → width_of v ((header v).codec.bare h) ≡ width_of v h
unfolding header Codec.named Codec.◌then◌ Codec.num Codec.checked Codec.raw
header-width v h = refl

-- header, layout, symbology
unfoldable pub block : List ℕ → MetadataLengths → Format Block false
block sheet v = named to_block (λ b. (b.header, (b.layout, b.symbology))) (λ x. refl)
    (on (header v) (λ h. body sheet v (width_of v h)) (λ h. ap (body sheet v) (header-width v h)))

-- what a block given whole with a version and a type sheet is read as: the block and the bytes after it, which are ignored. The version stands at
-- place 3 of the prelude
unfoldable pub block_of : ℕ → List ℕ → List ℕ → Res (Block × List ℕ)
block_of version sheet b =
    need (is_version version) 11 3 >>= λ _ _.
    need (leb 100 (length b)) 13 0 >>= λ _ _.
    need (leb (length b) 4294967295) 13 0 >>= λ _ _.
    whole (block sheet (lengths version)).codec 0 b
