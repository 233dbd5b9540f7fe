-- Number 110 of symbology rows lent by column, and 111 of their texts, in document 02's words.
-- Assumes nothing.
use Rattle.std.specs.Prelude.{ℕ, zero, suc, ◌+◌, ◌-◌, ◌/◌, Bool, true, ◌&&◌, cond, List, length, leb, eqb, Result, Ok, Err}
use Rattle.text.specs.Utf8.{utf8}
use Rattle.padded.specs.Padded.{nul_padded}
use Rattle.text.specs.Trim.{trimmed_len}
use Rattle.dates.specs.Date.{is_date}
use Rattle.symbology_format.specs.SymbologyFaults.{symbology_fault}
use Rattle.columns_check.specs.Tree.{kind_of, start_of, len_of, x_of, y_of, owner_of, text_of, list_rows, symbology_of}
use Rattle.codec.specs.Telling.{passed}
use Rattle.columns_check.specs.declared.Counts.{Counts}
use Rattle.columns_check.specs.declared.Unfit.{Unfit}
use Rattle.columns_check.specs.declared.Unfit.TheVariants.{Malformed, Wide}

-- f holds of n rows from row r on
abbrev pub every : (ℕ → Bool) → ℕ → ℕ → Bool
every f r zero = true
every f r (suc n) = f r && every f (r + 1) n

-- ---- 110, of one row

-- the last day of year 9999 is the largest
abbrev pub is_day : ℕ → Bool
is_day k = leb k 3652424

-- an interval has two days; a mapping's y is 0, and x and y of a row of a list are; of these the last number is the row's own index
unfoldable pub numbers_fit : List ℕ → ℕ → Bool
numbers_fit t r =
    cond (eqb (kind_of t r) 4) (is_day (x_of t r) && is_day (y_of t r))
    (eqb (owner_of t r) r && (eqb (y_of t r) 0 && cond (eqb (kind_of t r) 3) true (eqb (x_of t r) 0)))

-- the span lies in the text
abbrev pub span_fits : List ℕ → List ℕ → ℕ → Bool
span_fits t text r = leb (start_of t r + len_of t r) (length text)

-- a text that does not end in a NUL
abbrev pub ends_well : List ℕ → Bool
ends_well x = eqb (trimmed_len x) (length x)

unfoldable pub row_fits : List ℕ → List ℕ → ℕ → Bool
row_fits t text r = numbers_fit t r && (span_fits t text r && ends_well (text_of t text r))

-- ---- 110, of all rows

-- n rows from row r on are mappings, each with as many intervals after it as its x says, which have its row as their last number; `due` intervals
-- of the mapping in row `owner` are still to come
abbrev pub mapped : List ℕ → ℕ → ℕ → ℕ → ℕ → Bool
mapped t r zero owner due = eqb due 0
mapped t r (suc n) owner zero = eqb (kind_of t r) 3 && mapped t (r + 1) n r (x_of t r)
mapped t r (suc n) owner (suc due) = eqb (kind_of t r) 4 && (eqb (owner_of t r) owner && mapped t (r + 1) n owner due)

-- a count within the table's height, which four bytes hold; rows that fit; rows of kind 0, of kind 1, of kind 2, then the mappings
unfoldable pub well_formed : List ℕ → ℕ → List ℕ → Bool
well_formed t n text =
    (leb n (length t / 6) && leb n 4294967295) && (every (row_fits t text) 0 n && mapped t (list_rows t n) (n - list_rows t n) 0 0)

-- ---- 111

-- no text is wider than its field
unfoldable pub narrow : ℕ → List ℕ → ℕ → Bool
narrow width t n = every (λ r. leb (len_of t r) width) 0 n

-- ---- the answer

-- the number of document 02
abbrev pub unfit_number : Unfit → ℕ
unfit_number Malformed = 110
unfit_number Wide = 111

-- what rows make, or why they are no symbology
abbrev pub Columns : Type 0
Columns = Result Counts Unfit

-- 110, 111, or how many symbols, partial, not found and mappings there are, and by which number the reader would refuse them, 0 for none
unfoldable pub columns_of : ℕ → List ℕ → ℕ → List ℕ → Columns
columns_of width t n text =
    let s = symbology_of width t n text in
    cond (well_formed t n text)
    (cond (narrow width t n)
    (Ok (record { symbols = length s.symbols; partial = length s.partial; not_found = length s.not_found; mappings = length s.mappings; fault = passed (symbology_fault utf8 nul_padded is_date width s) }))
    (Err Wide))
    (Err Malformed)
