-- The symbology that rows of six stand for, lent by column with a text: document 01's "Rows" with requests 7, 8 and 10 of document 02, read back.
-- A symbol's text is a part of the text, and NULs fill it up.
-- Assumes nothing.
use Rattle.std.specs.Prelude.{cond, ℕ, zero, suc, ◌+◌, ◌-◌, List, [], ◌∷◌, ◌++◌, length, take, drop, replicate, eqb}
use Rattle.table.specs.Columns.{cell_of}
use Rattle.dates.specs.Day.{date_of_day}
use Rattle.symbology_format.specs.Symbology.{Symbol, Interval, Mapping, Symbology}

-- ---- one row

-- kind, start, length, x, y, owner of row r
abbrev pub kind_of : List ℕ → ℕ → ℕ
kind_of t r = cell_of t r 0

abbrev pub start_of : List ℕ → ℕ → ℕ
start_of t r = cell_of t r 1

abbrev pub len_of : List ℕ → ℕ → ℕ
len_of t r = cell_of t r 2

abbrev pub x_of : List ℕ → ℕ → ℕ
x_of t r = cell_of t r 3

abbrev pub y_of : List ℕ → ℕ → ℕ
y_of t r = cell_of t r 4

abbrev pub owner_of : List ℕ → ℕ → ℕ
owner_of t r = cell_of t r 5

-- the text of row r
unfoldable pub text_of : List ℕ → List ℕ → ℕ → List ℕ
text_of t text r = take (len_of t r) (drop (start_of t r) text)

-- a text, filled up with NULs to w bytes
unfoldable pub filled : ℕ → List ℕ → List ℕ
filled w x = x ++ replicate (w - length x) 0

module _ (width : ℕ) (t text : List ℕ) where
  -- the symbol of row r
  abbrev pub symbol_of : ℕ → Symbol
  symbol_of r = record { start = start_of t r; text = filled width (text_of t text r) }

  -- the interval of row r: its numbers of days are turned back
  abbrev pub interval_of : ℕ → Interval
  interval_of r = record { from = date_of_day (x_of t r); to = date_of_day (y_of t r); symbol = symbol_of r }

  -- ---- the rows of a list

  -- the symbols of n rows from row r on
  abbrev pub symbols_from : ℕ → ℕ → List Symbol
  symbols_from r zero = []
  symbols_from r (suc n) = symbol_of r ∷ symbols_from (r + 1) n

  -- ---- the rows of the mappings

  -- what n rows from row r on stand for: intervals of a mapping before them, then mappings, each with the intervals that follow it
  abbrev pub intervals_from : ℕ → ℕ → List Interval
  intervals_from r zero = []
  intervals_from r (suc n) = cond (eqb (kind_of t r) 4) (interval_of r ∷ intervals_from (r + 1) n) []

  abbrev pub mappings_from : ℕ → ℕ → List Mapping
  mappings_from r zero = []
  mappings_from r (suc n) =
      cond (eqb (kind_of t r) 3) (record { raw_symbol = symbol_of r; intervals = intervals_from (r + 1) n } ∷ mappings_from (r + 1) n) (mappings_from (r + 1) n)

-- ---- all rows

-- how many of n rows from row r on are of that kind, up to the first of another
abbrev pub run : ℕ → List ℕ → ℕ → ℕ → ℕ
run kind t r zero = 0
run kind t r (suc n) = cond (eqb (kind_of t r) kind) (suc (run kind t (r + 1) n)) 0

-- of n rows: those of the list symbols, those of partial after them, those of not found after these
abbrev pub symbol_rows : List ℕ → ℕ → ℕ
symbol_rows t n = run 0 t 0 n

abbrev pub partial_rows : List ℕ → ℕ → ℕ
partial_rows t n = run 1 t (symbol_rows t n) (n - symbol_rows t n)

abbrev pub not_found_rows : List ℕ → ℕ → ℕ
not_found_rows t n = run 2 t (symbol_rows t n + partial_rows t n) (n - (symbol_rows t n + partial_rows t n))

-- the rows of the three lists, and so the first row of the mappings
abbrev pub list_rows : List ℕ → ℕ → ℕ
list_rows t n = symbol_rows t n + partial_rows t n + not_found_rows t n

-- the symbology that n rows stand for
unfoldable pub symbology_of : ℕ → List ℕ → ℕ → List ℕ → Symbology
symbology_of width t n text = record {
  symbols = symbols_from width t text 0 (symbol_rows t n);
  partial = symbols_from width t text (symbol_rows t n) (partial_rows t n);
  not_found = symbols_from width t text (symbol_rows t n + partial_rows t n) (not_found_rows t n);
  mappings = mappings_from width t text (list_rows t n) (n - list_rows t n);
}
