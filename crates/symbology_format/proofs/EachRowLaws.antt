-- What holds of the row of every symbol holds of every row of a symbology. Assumes nothing.
use Rattle.std.specs.Prelude.{ℕ, ◌≤◌, ◌≡◌, Bool, true, length}
use Rattle.std.proofs.Common.{arith}
use mathlib.Core.List.{List, [], ◌∷◌, ◌++◌, map}
use Rattle.codec.specs.Codec.{Codec, raw, num, named, checked, placed, asks, limited, TimesEach, TimesLegal, ◌then◌}
use Rattle.dates.specs.Day.{day_of}
use Rattle.table.specs.Table.{From, each_from}
use Rattle.table.specs.EachLaws.{Each, each_append, each_item, each_from_lem}
use Rattle.symbology_format.specs.Symbology.{Symbol, Interval, Mapping, Symbology, symbol, date, list, interval, mapping, symbology}
use Rattle.symbology_format.specs.SymbologyRows.{symbol_row, interval_row, mapping_rows, list_row, list_rows, symbology_rows}

-- items that are legal, and P of the start and the bytes of every part of theirs that has its place
module _ {A : Type 0} (c : Codec A) (P : ℕ → List ℕ → Type 0) (Q : List ℕ → Type 0) where
  abbrev All : List A → Type 0
  All xs = TimesLegal c xs × TimesEach c P xs

  first : (x : A) (xs : List A) → All (x ∷ xs) → (c.legal x × c.each P x) × All xs
  first x xs e = ((e.0.0, e.1.0), (e.0.1, e.1.1))

  items : (row : A → List ℕ) → ((x : A) → c.legal x × c.each P x → Q (row x)) → (xs : List A) → All xs → Each Q (map row xs)
  items = each_item (λ x. c.legal x × c.each P x) Q All first

  all_from : (rows : A → From) → ((x : A) (n : ℕ) → c.legal x × c.each P x → Each Q (rows x n)) → (xs : List A) (n : ℕ) → All xs → Each Q (each_from rows xs n)
  all_from = each_from_lem (λ x. c.legal x × c.each P x) Q All first

-- a symbol of this width that passes the test of its NULs, with P of its start and its text, has a row of which Q holds, of any kind to 4
module _ (utf8 nul_padded : List ℕ → Bool) (is_date : ℕ → Bool) (width : ℕ) (P : ℕ → List ℕ → Type 0) (Q : List ℕ → Type 0)
    (h : (kind : ℕ) → kind ≤ 4 → (x y owner : ℕ) (s : Symbol) → length s.text ≡ width → nul_padded s.text ≡ true → P s.start s.text → Q (symbol_row kind s x y owner)) where
  abbrev one : ℕ → ℕ → ℕ → Codec Symbol
  one k k' k'' = (symbol utf8 nul_padded is_date width k k' k'').codec

  abbrev span : Codec Interval
  span = (interval utf8 nul_padded is_date width).codec

  symbol-row : (k k' k'' kind : ℕ) → kind ≤ 4 → (x y owner : ℕ) (s : Symbol) → (one k k' k'').legal s × (one k k' k'').each P s → Q (symbol_row kind s x y owner)
  unfolding symbol named placed checked raw
  symbol-row k k' k'' kind i x y owner s e = h kind i x y owner s e.0.0.0.0 e.0.1 e.1

  list-rows : (kind : ℕ) → kind ≤ 4 → (xs : List Symbol) (n : ℕ) → (list utf8 nul_padded is_date width).codec.legal xs → (list utf8 nul_padded is_date width).codec.each P xs → Each Q (list_rows kind xs n)
  unfolding list limited
  list-rows kind i xs n l e = all_from (one 31 32 41) P Q (λ s n. list_row kind s n ∷ []) (λ s n g. (symbol-row 31 32 41 kind i 0 0 n s g, tt)) xs n (l.1, e)

  interval-row : (owner : ℕ) (i : Interval) → span.legal i × span.each P i → Q (interval_row owner i)
  unfolding interval named ◌then◌ date checked num
  interval-row owner i e = symbol-row 37 40 43 4 (omega arith) (day_of i.from) (day_of i.to) owner i.symbol (e.0.1.1, e.1.1.1)

  mapping-rows : (m : Mapping) (n : ℕ) → (mapping utf8 nul_padded is_date width).codec.legal m × (mapping utf8 nul_padded is_date width).codec.each P m → Each Q (mapping_rows m n)
  unfolding mapping named asks ◌then◌ limited
  mapping-rows m n e = (
    symbol-row 35 36 42 3 (omega arith) (length m.intervals) 0 n m.raw_symbol (e.0.0, e.1.0),
    items span P Q (interval_row n) (interval-row n) m.intervals (e.0.1.1, e.1.1),
  )

  pub each_row : (t : Symbology) → (symbology utf8 nul_padded is_date width).codec.legal t → (symbology utf8 nul_padded is_date width).codec.each P t → Each Q (symbology_rows t)
  unfolding symbology_rows symbology named ◌then◌ limited
  each_row t l e =
      lists 0 (omega arith) t.symbols 0 l.0 e.0 _
      (lists 1 (omega arith) t.partial _ l.1.0 e.1.0 _
      (lists 2 (omega arith) t.not_found _ l.1.1.0 e.1.1.0 _
      (all_from (mapping utf8 nul_padded is_date width).codec P Q mapping_rows mapping-rows t.mappings _ (l.1.1.1.1, e.1.1.1))))
    where
      lists : (kind : ℕ) → kind ≤ 4 → (xs : List Symbol) (n : ℕ) → (list utf8 nul_padded is_date width).codec.legal xs → (list utf8 nul_padded is_date width).codec.each P xs → (rest : List (List ℕ)) → Each Q rest → Each Q (list_rows kind xs n ++ rest)
      lists kind i xs n l e rest g = each_append Q (list_rows kind xs n) rest (list-rows kind i xs n l e) g
