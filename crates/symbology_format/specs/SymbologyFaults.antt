-- What a well sized symbology is, and the number of its first fault in wire order.
-- Assumes nothing.
use Rattle.std.specs.Prelude.{ℕ, ◌^◌, ◌<◌, ◌≡◌, Bool, ◌||◌, List, length, ltb, eqb}
use Rattle.codec.specs.Codec.{Bytes}
use Rattle.codec.specs.Faults.{unless, first, first_of, Every}
use Rattle.symbology_format.specs.Symbology.{Symbol, Interval, Mapping, Symbology}

-- ---- well sized

-- P holds of all, and their count fits in four bytes
abbrev pub Counted : {A : Type 0} → (A → Type 0) → List A → Type 0
Counted P xs = (length xs < 256 ^ 4) × Every P xs

module _ (width : ℕ) where
  -- a symbol has its whole width
  abbrev pub SizedSymbol : Symbol → Type 0
  SizedSymbol s = (length s.text ≡ width) × Bytes s.text

  -- dates fit in four bytes
  abbrev pub SizedInterval : Interval → Type 0
  SizedInterval i = (i.from < 256 ^ 4) × ((i.to < 256 ^ 4) × SizedSymbol i.symbol)

  abbrev pub SizedMapping : Mapping → Type 0
  SizedMapping m = SizedSymbol m.raw_symbol × Counted SizedInterval m.intervals

  pub record SizedSymbology (t : Symbology) : Type 0 where
    pub symbols : Counted SizedSymbol t.symbols
    pub partial : Counted SizedSymbol t.partial
    pub not_found : Counted SizedSymbol t.not_found
    pub mappings : Counted SizedMapping t.mappings

module _ (utf8 nul_padded : List ℕ → Bool) (is_date : ℕ → Bool) (width : ℕ) where
  -- ---- the faults

  -- k where a symbol is not UTF-8, then k' where another byte follows a NUL
  abbrev pub symbol_fault : ℕ → ℕ → Symbol → ℕ
  symbol_fault k k' s = first (unless (utf8 s.text) k) (unless (nul_padded s.text) k')

  -- 31 where there are symbols of width 0; in each symbol 32, then 41
  abbrev pub list_fault : List Symbol → ℕ
  list_fault xs = first (unless (ltb 0 width || eqb 0 (length xs)) 31) (first_of (symbol_fault 32 41) xs)

  -- start date 38, end date 39, symbol 40, then 43
  abbrev pub interval_fault : Interval → ℕ
  interval_fault i = first (unless (is_date i.from) 38) (first (unless (is_date i.to) 39) (symbol_fault 40 43 i.symbol))

  -- raw symbol 36, then 42; then the intervals
  abbrev pub mapping_fault : Mapping → ℕ
  mapping_fault m = first (symbol_fault 36 42 m.raw_symbol) (first_of interval_fault m.intervals)

  -- lists symbols, partial, not found; then the mappings
  abbrev pub symbology_fault : Symbology → ℕ
  symbology_fault t = first (list_fault t.symbols) (first (list_fault t.partial) (first (list_fault t.not_found) (first_of mapping_fault t.mappings)))
