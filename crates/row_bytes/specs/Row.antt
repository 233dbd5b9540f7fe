-- Which row of the symbology can be stored, and its bytes. Assumes nothing.
use Rattle.std.specs.Prelude.{ℕ, ◌+◌, Bool, ◌&&◌, cond, List, [], length, leb, ltb, eqb}
use Rattle.columns_check.specs.Tree.{kind_of, start_of, len_of, x_of, y_of}
use Rattle.columns_check.specs.Check.{is_day}
use Rattle.columns_check.specs.PrintLaws.{printed_row}

-- its span lies in the text and is no wider than the width, its kind is one of 0 to 4, and an interval's days are days
unfoldable pub row_stands : ℕ → List ℕ → List ℕ → ℕ → Bool
row_stands width t text r =
    leb (start_of t r + len_of t r) (length text)
    && (leb (len_of t r) width && cond (eqb (kind_of t r) 4) (is_day (x_of t r) && is_day (y_of t r)) (ltb (kind_of t r) 4))

-- how many bytes a row of that kind has beside its text
unfoldable pub more_of : ℕ → ℕ
more_of kind = cond (eqb kind 4) 8 (cond (eqb kind 3) 4 0)

-- its bytes; none where it cannot be stored
unfoldable pub row_bytes : ℕ → List ℕ → List ℕ → ℕ → List ℕ
row_bytes width t text r = cond (row_stands width t text r) (printed_row width t text r) []
