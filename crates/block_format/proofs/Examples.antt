-- Document 01's P10 and P11, computed: version 2, width 3, all else before the lists zero, a block of 123 bytes. Assumes nothing.
use Rattle.std.specs.Prelude.{ℕ, false, ◌≡◌, refl, List, [], ◌∷◌, ◌++◌, replicate, Some, None}
use Rattle.codec.specs.Codec.{ok, refuse, refusal, raw, skip, num, ◌then◌, ◌on◌, named, checked, placed, sized, limited, asks, whole, remainder}
use Rattle.text.specs.Utf8.{utf8}
use Rattle.symbology_format.specs.Symbology.{symbol, date, list, interval, mapping, symbology}
use Rattle.symbology_format.specs.SymbologyRows.{symbology_rows}
use Rattle.layout.specs.Rows.{rows}
use Rattle.metadata_lengths.specs.Lengths.{lengths}
use Rattle.block_format.specs.Block.{header, layout_part, symbology_part, block, block_of}
use Rattle.block_format.specs.Fields.{fields_with, fields_of}
use Rattle.block_format.proofs.ReadLaws.{given}
use Rattle.block_format.specs.declared.Fields.{Fields}

-- the block, with the one symbol t
abbrev pub listed : List ℕ → List ℕ
listed t = replicate 45 0 ++ (3 ∷ 0 ∷ []) ++ replicate 53 0 ++ replicate 4 0 ++ (1 ∷ 0 ∷ 0 ∷ 0 ∷ []) ++ t ++ replicate 12 0

-- the fields of a block of version 2 whose header is zeros but for a symbol width, with so many symbology rows
abbrev pub zero_fields : ℕ → ℕ → Fields
zero_fields width n = record {
  dataset_len = 0;
  schema = Some 0;
  start = 0;
  end = None;
  limit = None;
  stype_in = Some 0;
  stype_out = 0;
  ts_out = false;
  symbol_cstr_len = width;
  layout_version = 0;
  symbology_rows = n;
  layout_rows = 0;
}

-- P10: trailing NULs are no part of a symbol
pub P10 : (sheet : List ℕ) → given 2 sheet (listed (69 ∷ 83 ∷ 0 ∷ [])) ≡ ok (zero_fields 3 1, ((0 ∷ 108 ∷ 2 ∷ 0 ∷ 0 ∷ 0 ∷ []) ∷ [], [])) 123
unfolding block_of lengths whole block ◌on◌ header named ◌then◌ checked raw skip num layout_part sized symbology_part remainder symbology list limited symbol placed date interval mapping asks symbology_rows rows fields_of fields_with utf8
P10 sheet = refl

-- a symbol without a NUL has its whole width
pub wide : (sheet : List ℕ) → given 2 sheet (listed (69 ∷ 83 ∷ 71 ∷ [])) ≡ ok (zero_fields 3 1, ((0 ∷ 108 ∷ 3 ∷ 0 ∷ 0 ∷ 0 ∷ []) ∷ [], [])) 123
unfolding block_of lengths whole block ◌on◌ header named ◌then◌ checked raw skip num layout_part sized symbology_part remainder symbology list limited symbol placed date interval mapping asks symbology_rows rows fields_of fields_with utf8
wide sheet = refl

-- P11: after a NUL only NULs may follow
pub P11 : (sheet : List ℕ) → block_of 2 sheet (listed (69 ∷ 0 ∷ 83 ∷ [])) ≡ refuse (refusal 41 108)
unfolding block_of lengths whole block ◌on◌ header named ◌then◌ checked raw skip num layout_part sized symbology_part remainder symbology list limited symbol placed utf8
P11 sheet = refl

-- below version 4 the bytes of a layout are looked for before their length is held to 0: a length of 5 at the block's end is 44, and not 25
pub cut-below_4 : (sheet : List ℕ) → block_of 2 sheet (replicate 100 0 ++ (5 ∷ 0 ∷ 0 ∷ 0 ∷ [])) ≡ refuse (refusal 44 104)
unfolding block_of lengths whole block ◌on◌ header named ◌then◌ checked raw skip num layout_part sized utf8
cut-below_4 sheet = refl
