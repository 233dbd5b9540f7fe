-- The numbers of the fields of a block that is to be written: sixteen as the reader gives them, and at 13 the dataset's start in the text.
-- Assumes nothing.
use Rattle.std.specs.Prelude.{ℕ, ◌/◌, ◌%◌, Bool, List, get_or, eqb}

abbrev pub dataset_len : List ℕ → ℕ
dataset_len fs = get_or fs 0 0

abbrev pub schema : List ℕ → ℕ
schema fs = get_or fs 1 0

abbrev pub start : List ℕ → ℕ
start fs = get_or fs 2 0

abbrev pub end : List ℕ → ℕ
end fs = get_or fs 3 0

abbrev pub limit : List ℕ → ℕ
limit fs = get_or fs 4 0

abbrev pub stype_in : List ℕ → ℕ
stype_in fs = get_or fs 5 0

abbrev pub stype_out : List ℕ → ℕ
stype_out fs = get_or fs 6 0

abbrev pub ts_out : List ℕ → ℕ
ts_out fs = get_or fs 7 0

abbrev pub width : List ℕ → ℕ
width fs = get_or fs 8 0

abbrev pub layout_version : List ℕ → ℕ
layout_version fs = get_or fs 9 0

abbrev pub present : List ℕ → ℕ
present fs = get_or fs 12 0

abbrev pub dataset_start : List ℕ → ℕ
dataset_start fs = get_or fs 13 0

-- presence bits: 1 schema, 2 end, 4 limit, 8 stype_in
abbrev pub has : ℕ → List ℕ → Bool
has bit fs = eqb (present fs / bit % 2) 1
