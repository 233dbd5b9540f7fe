-- The writer accepts a layout with a record, a struct and a label def, and writes its bytes.
-- Assumes nothing.
use Rattle.std.specs.Prelude.{ℕ, ◌≤◌, ◌≡◌, refl, true, List, [], ◌∷◌, ◌++◌, length, replicate, Ok}
use Rattle.codec.specs.Codec.{raw, padded, num, fixed, named, checked, placed, sized, times, distinct, boxed, ◌then◌}
use Rattle.text.specs.Utf8.{utf8}
use Rattle.wire.specs.Formats.{section, text, text_of, name}
use Rattle.layout.specs.Layout.{entry, fields, record_l, struct_l, label, label_def, parts, groups, print_layout}
use Rattle.layout.specs.LayoutOf.{D}
use Rattle.entry.specs.Entry.{cut_bytes, row_bytes}
use Rattle.fields.specs.Sheet.{align_of, def_of, id_of, is_decimal, is_extension, is_padding, is_struct, is_symbol, member_align, names_label, off_of, past_base, size_of, type_of}
use Rattle.fields.specs.Field.{breaks71, breaks72, breaks73, breaks74, breaks76, breaks77, breaks79, breaks80, field_fault}
use Rattle.item_rules.specs.Rules.{seqs_fault, structs_fault, records_fault, struct_fault, record_fault, seq_fault, fields_fault, base_fault, ext_fault, tiling_fault, spans, struct_align, largest}
use Rattle.rules.specs.Rules.{rules_of}
use Rattle.rules.specs.RowRules.{rows_rules}
use Rattle.writer.specs.Write.{write_layout}
use Rattle.writer.proofs.RoundTripLaws.{accepts}
use Rattle.rows_check.specs.Tree.{count_kind, count_of, from, names_from, skip, tree_of}
use Rattle.rows_check.specs.Check.{fit_fault, fault, well_formed, both, every, row_test, row_fits, limit_of, in_order, walk, section_in_place, name_kind, counts_fit, groups_fit, count_fits, name_short, name_clean, clean, sections_fit, fits_all, printed_section, printed, rises_at}

-- a type sheet of zeros: no type has a natural size, and type 1 is no struct, symbol, decimal or padding
abbrev pub sheet : List ℕ
sheet = replicate 520 0

-- a record of one field of eight bytes, a struct of one field of four, and a label def of one label; every name is the text's one letter
abbrev pub table : List ℕ
table =
    (10 ∷ 0 ∷ 1 ∷ 1 ∷ 0 ∷ 8 ∷ 1 ∷ 0 ∷ 0 ∷ [])
    ++ (11 ∷ 1 ∷ 0 ∷ 8 ∷ 1 ∷ 0 ∷ 0 ∷ 0 ∷ 0 ∷ [])
    ++ (12 ∷ 0 ∷ 1 ∷ 0 ∷ 0 ∷ 0 ∷ 0 ∷ 0 ∷ 0 ∷ [])
    ++ (13 ∷ 0 ∷ 1 ∷ 4 ∷ 1 ∷ 0 ∷ 0 ∷ 0 ∷ 0 ∷ [])
    ++ (11 ∷ 1 ∷ 0 ∷ 4 ∷ 1 ∷ 0 ∷ 0 ∷ 0 ∷ 0 ∷ [])
    ++ (12 ∷ 0 ∷ 1 ∷ 0 ∷ 0 ∷ 0 ∷ 0 ∷ 0 ∷ 0 ∷ [])
    ++ (14 ∷ 0 ∷ 1 ∷ 1 ∷ 0 ∷ 0 ∷ 0 ∷ 0 ∷ 0 ∷ [])
    ++ (15 ∷ 0 ∷ 1 ∷ 5 ∷ 0 ∷ 0 ∷ 0 ∷ 0 ∷ 0 ∷ [])

-- neither 90 to 95 nor a rule refuses it
pub well_formed_lem : fault true table (65 ∷ []) ≡ 0
unfolding fault fit_fault well_formed both every row_test row_fits limit_of in_order walk section_in_place name_kind counts_fit groups_fit count_fits name_short name_clean clean sections_fit fits_all printed_section printed rises_at count_kind count_of from names_from skip tree_of cut_bytes row_bytes utf8 print_layout parts groups record_l struct_l label_def label fields entry padded named ◌then◌ sized times distinct num raw fixed section boxed name text text_of checked placed D
well_formed_lem = refl

pub ruled : rows_rules sheet 71 table (65 ∷ []) ≡ 0
unfolding rows_rules rules_of count_kind count_of from names_from skip tree_of cut_bytes row_bytes seqs_fault structs_fault records_fault struct_fault record_fault seq_fault fields_fault base_fault ext_fault tiling_fault spans struct_align largest field_fault breaks71 breaks72 breaks73 breaks74 breaks76 breaks77 breaks79 breaks80 align_of def_of id_of is_decimal is_extension is_padding is_struct is_symbol member_align names_label off_of past_base size_of type_of
ruled = refl

-- so it is written, wherever the output has room for it
pub writes : (room : ℕ) → length (printed 1 table (65 ∷ [])) ≤ room → write_layout sheet 71 1 table (65 ∷ []) room ≡ Ok (length (printed 1 table (65 ∷ [])))
writes room h = accepts sheet 71 1 table (65 ∷ []) room well_formed_lem ruled h
