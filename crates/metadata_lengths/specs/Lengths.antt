-- The lengths of the parts that differ from version to version. Assumes nothing.
use Rattle.std.specs.Prelude.{ℕ, true, false, cond, eqb}
use Rattle.metadata_lengths.specs.declared.MetadataLengths.{MetadataLengths}

-- version 1 has dataset 16, a record count, no symbol width, reserved 47
abbrev pub v1 : MetadataLengths
v1 = record { dataset_cstr_len = 16; record_count_len = 8; symbol_cstr_len_len = 0; reserved_len = 47; has_layout = false }

-- 2 and 3 have 16 and 53
abbrev pub v2 : MetadataLengths
v2 = record { dataset_cstr_len = 16; record_count_len = 0; symbol_cstr_len_len = 2; reserved_len = 53; has_layout = false }

-- 4 has 38 and 31, and a layout
abbrev pub v4 : MetadataLengths
v4 = record { dataset_cstr_len = 38; record_count_len = 0; symbol_cstr_len_len = 2; reserved_len = 31; has_layout = true }

unfoldable pub lengths : ℕ → MetadataLengths
lengths version = cond (eqb version 1) v1 (cond (eqb version 4) v4 v2)
