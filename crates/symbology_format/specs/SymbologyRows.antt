-- The symbology's rows, as document 01's "Rows" has them with requests 7 and 8 of document 02: six numbers each, in wire order. Assumes nothing.
use Rattle.std.specs.Prelude.{ℕ, List, [], ◌∷◌, map, length}
use Rattle.table.specs.Table.{From, ◌and_then◌, each_from}
use Rattle.text.specs.Trim.{trimmed_len}
use Rattle.dates.specs.Day.{day_of}
use Rattle.symbology_format.specs.Symbology.{Symbol, Interval, Mapping, Symbology}

-- kind, start, length, x, y, owner
abbrev pub row6 : ℕ → ℕ → ℕ → ℕ → ℕ → ℕ → List ℕ
row6 kind start len x y owner = kind ∷ start ∷ len ∷ x ∷ y ∷ owner ∷ []

-- the row of a symbol: where its text starts, and how long it is without the NULs at its end
abbrev pub symbol_row : ℕ → Symbol → ℕ → ℕ → ℕ → List ℕ
symbol_row kind s x y owner = row6 kind s.start (trimmed_len s.text) x y owner

-- a symbol of a list of kind 0, 1 or 2, in row n
abbrev pub list_row : ℕ → Symbol → ℕ → List ℕ
list_row kind s n = symbol_row kind s 0 0 n

-- a list from row n on
abbrev pub list_rows : ℕ → List Symbol → From
list_rows kind xs = each_from (λ s n. list_row kind s n ∷ []) xs

-- an interval of the mapping in row `owner`: its dates stand in its row as the numbers of their days
abbrev pub interval_row : ℕ → Interval → List ℕ
interval_row owner i = symbol_row 4 i.symbol (day_of i.from) (day_of i.to) owner

-- a mapping in row n, and its intervals
abbrev pub mapping_rows : Mapping → From
mapping_rows m n = symbol_row 3 m.raw_symbol (length m.intervals) 0 n ∷ map (interval_row n) m.intervals

-- the lists symbols, partial, not found, then the mappings, from row 0 on
unfoldable pub symbology_rows : Symbology → List (List ℕ)
symbology_rows t = (list_rows 0 t.symbols and_then list_rows 1 t.partial and_then list_rows 2 t.not_found and_then each_from mapping_rows t.mappings) 0
