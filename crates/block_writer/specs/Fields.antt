-- The fields of a block that is to be written: which are malformed (110), and which are wider than their place (111), in document 02's words.
-- Assumes nothing.
use Rattle.std.specs.Prelude.{ℕ, ◌+◌, Bool, true, ◌&&◌, cond, List, length, take, drop, leb, ltb, eqb}
use Rattle.columns_check.specs.Check.{ends_well}
use Rattle.metadata_lengths.specs.Lengths.{lengths}
use Rattle.header_bytes.specs.Numbers.{dataset_len, schema, end, limit, stype_in, stype_out, ts_out, width, layout_version, present, dataset_start, has}

-- the dataset's text
unfoldable pub dataset_text : List ℕ → List ℕ → List ℕ
dataset_text fs text = take (dataset_len fs) (drop (dataset_start fs) text)

-- ---- 110

-- a value that is present passes its test; one that is absent is 0
abbrev pub option_fits : Bool → Bool → ℕ → Bool
option_fits here fits x = cond here fits (eqb x 0)

-- a present schema is not 65535, a present end neither 0 nor 2^64-1, a present limit not 0, a present stype_in not 255; each fits its place
unfoldable pub options_fit : List ℕ → Bool
options_fit fs =
    leb (present fs) 15
    && (option_fits (has 1 fs) (ltb (schema fs) 65535) (schema fs)
    && (option_fits (has 2 fs) (ltb 0 (end fs) && ltb (end fs) 18446744073709551615) (end fs)
    && (option_fits (has 4 fs) (ltb 0 (limit fs)) (limit fs)
    && option_fits (has 8 fs) (ltb (stype_in fs) 255) (stype_in fs))))

-- stype_out fits a byte and ts_out is 0 or 1; a width fits two bytes, but for version 1, which has no place for it; a layout version fits two bytes,
-- and is 0 below version 4
unfoldable pub numbers_fit : ℕ → List ℕ → Bool
numbers_fit version fs =
    leb (stype_out fs) 255
    && (leb (ts_out fs) 1
    && (cond (eqb version 1) true (leb (width fs) 65535)
    && leb (layout_version fs) (cond (eqb version 4) 65535 0)))

-- the dataset's span lies in the text, and it does not end in a NUL
unfoldable pub dataset_fits : List ℕ → List ℕ → Bool
dataset_fits fs text = leb (dataset_start fs + dataset_len fs) (length text) && ends_well (dataset_text fs text)

unfoldable pub fields_fit : ℕ → List ℕ → List ℕ → Bool
fields_fit version fs text = options_fit fs && (numbers_fit version fs && dataset_fits fs text)

-- ---- 111

-- the dataset is no wider than its field, and version 1 has the width 22
unfoldable pub fields_narrow : ℕ → List ℕ → Bool
fields_narrow version fs = leb (dataset_len fs) (lengths version).dataset_cstr_len && cond (eqb version 1) (eqb (width fs) 22) true
