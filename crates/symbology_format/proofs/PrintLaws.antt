-- The bytes that a symbology prints, and that its places change no row but by its start, and no text. Assumes nothing.
use Rattle.std.specs.Prelude.{ℕ, ◌+◌, ◌≡◌, Bool, length, get_or, set, take, drop}
use Rattle.std.proofs.Math.Path.{refl, ap, ap₂}
use Rattle.std.proofs.Common.{sym, ◌∙◌, take-take}
use mathlib.Core.List.{List, [], ◌∷◌, ◌++◌, map, map-map, map-append}
use Rattle.std.proofs.lemmas.List.{length-map}
use Rattle.codec.specs.Codec.{Codec, little, raw, num, named, checked, placed, asks, limited, times_print, times_bare, TimesEach, ◌then◌}
use Rattle.codec.proofs.Laws.{length-bare}
use Rattle.dates.specs.Day.{day_of}
use Rattle.text.specs.Trim.{trimmed_len}
use Rattle.text.specs.TrimLaws.{trimmed-le}
use Rattle.table.specs.Table.{flat, From, ◌and_then◌, each_from}
use Rattle.symbology_format.specs.Symbology.{Symbol, Interval, Mapping, Symbology, symbol, date, list, interval, mapping, symbology}
use Rattle.symbology_format.specs.SymbologyRows.{symbol_row, interval_row, mapping_rows, list_row, list_rows, symbology_rows}
use Rattle.symbology_format.proofs.NameLaws.{Stands}

-- ---- texts

-- the texts of symbols
abbrev pub list_texts : List Symbol → List (List ℕ)
list_texts xs = map (λ s. s.text) xs

-- the text of a mapping's raw symbol, then those of its intervals
abbrev pub mapping_texts : Mapping → List (List ℕ)
mapping_texts m = m.raw_symbol.text ∷ map (λ i. i.symbol.text) m.intervals

-- the texts of all symbols, in the order of the rows
abbrev pub symbol_texts : Symbology → List (List ℕ)
symbol_texts t = list_texts t.symbols ++ (list_texts t.partial ++ (list_texts t.not_found ++ flat (map mapping_texts t.mappings)))

-- a text without the NULs at its end
abbrev pub trimmed : List ℕ → List ℕ
trimmed u = take (trimmed_len u) u

-- the bytes of b that a row names
abbrev pub name_in : List ℕ → List ℕ → List ℕ
name_in b r = take (get_or r 2 0) (drop (get_or r 1 0) b)

-- a row without its start
abbrev pub no_start6 : List ℕ → List ℕ
no_start6 r = set r 1 0

-- ---- bytes

-- symbols, one after the other
abbrev pub printed_symbols : List Symbol → List ℕ
printed_symbols xs = flat (list_texts xs)

-- u32 count, then symbols
abbrev pub printed_list : List Symbol → List ℕ
printed_list xs = little 4 (length xs) ++ printed_symbols xs

-- start date, end date, symbol
abbrev pub printed_interval : Interval → List ℕ
printed_interval i = little 4 i.from ++ (little 4 i.to ++ i.symbol.text)

-- raw symbol, u32 count, then intervals
abbrev pub printed_mapping : Mapping → List ℕ
printed_mapping m = m.raw_symbol.text ++ (little 4 (length m.intervals) ++ flat (map printed_interval m.intervals))

-- the three lists, u32 count, then mappings
abbrev pub printed_symbology : Symbology → List ℕ
printed_symbology t = printed_list t.symbols ++ (printed_list t.partial ++ (printed_list t.not_found ++ (little 4 (length t.mappings) ++ flat (map printed_mapping t.mappings))))

-- ---- rows, and others after them

then-bare : (f f' g g' : From) (n : ℕ) → map no_start6 (f n) ≡ f' n → ((m : ℕ) → map no_start6 (g m) ≡ g' m) → map no_start6 ((f and_then g) n) ≡ (f' and_then g') n
then-bare f f' g g' n e h =
    let same : length (f n) ≡ length (f' n) = sym (length-map (f n) no_start6) ∙ ap length e in
    map-append no_start6 (f n) (g (n + length (f n))) ∙ ap₂ ◌++◌ e (h (n + length (f n)) ∙ ap (λ (l : ℕ). g' (n + l)) same)

both-names : (b : List ℕ) (rs qs us vs : List (List ℕ)) → map (name_in b) rs ≡ map trimmed us → map (name_in b) qs ≡ map trimmed vs → map (name_in b) (rs ++ qs) ≡ map trimmed (us ++ vs)
both-names b rs qs us vs e h = map-append (name_in b) rs qs ∙ ap₂ ◌++◌ e h ∙ sym (map-append trimmed us vs)

-- ---- items of one format
module _ {A : Type 0} (c : Codec A) where
  -- their bytes
  times-print : (f : A → List ℕ) → ((x : A) → c.print x ≡ f x) → (xs : List A) → times_print c xs ≡ flat (map f xs)
  times-print f h [] = refl
  times-print f h (x ∷ xs) = ap₂ ◌++◌ (h x) (times-print f h xs)

  -- what is left without their places
  map-bare : {B : Type 0} (f g : A → B) → ((x : A) → f x ≡ g (c.bare x)) → (xs : List A) → map f xs ≡ map g (times_bare c xs)
  map-bare f g h [] = refl
  map-bare f g h (x ∷ xs) = ap₂ ◌∷◌ (h x) (map-bare f g h xs)

  from-bare : (f : A → From) → ((x : A) (n : ℕ) → map no_start6 (f x n) ≡ f (c.bare x) n) → (xs : List A) (n : ℕ) → map no_start6 (each_from f xs n) ≡ each_from f (times_bare c xs) n
  from-bare f h [] n = refl
  from-bare f h (x ∷ xs) n = then-bare (f x) (f (c.bare x)) (each_from f xs) (each_from f (times_bare c xs)) n (h x n) (from-bare f h xs)

  -- the names of their rows
  module _ (b : List ℕ) where
    row-names : (row : A → List ℕ) (text : A → List ℕ) → ((x : A) → c.each (Stands b) x → name_in b (row x) ≡ trimmed (text x)) → (xs : List A) → TimesEach c (Stands b) xs → map (name_in b) (map row xs) ≡ map trimmed (map text xs)
    row-names row text h [] e = refl
    row-names row text h (x ∷ xs) e = ap₂ ◌∷◌ (h x e.0) (row-names row text h xs e.1)

    from-names : (f : A → From) (texts : A → List (List ℕ)) → ((x : A) (n : ℕ) → c.each (Stands b) x → map (name_in b) (f x n) ≡ map trimmed (texts x)) → (xs : List A) (n : ℕ) → TimesEach c (Stands b) xs
        → map (name_in b) (each_from f xs n) ≡ map trimmed (flat (map texts xs))
    from-names f texts h [] n e = refl
    from-names f texts h (x ∷ xs) n e = both-names b (f x n) (each_from f xs (n + length (f x n))) (texts x) (flat (map texts xs)) (h x n e.0) (from-names f texts h xs (n + length (f x n)) e.1)

module _ (utf8 nul_padded : List ℕ → Bool) (is_date : ℕ → Bool) (width : ℕ) where
  abbrev one : Codec Symbol
  one = (symbol utf8 nul_padded is_date width 31 32 41).codec

  abbrev span : Codec Interval
  span = (interval utf8 nul_padded is_date width).codec

  abbrev many : Codec Mapping
  many = (mapping utf8 nul_padded is_date width).codec

  abbrev all : Codec Symbology
  all = (symbology utf8 nul_padded is_date width).codec

  -- ---- what is printed

  list-print : (xs : List Symbol) → (list utf8 nul_padded is_date width).codec.print xs ≡ printed_list xs
  unfolding list limited symbol named placed checked raw
  list-print xs = ap (λ u. little 4 (length xs) ++ u) (times-print one (λ s. s.text) (λ s. refl) xs)

  interval-print : (i : Interval) → span.print i ≡ printed_interval i
  unfolding interval named ◌then◌ date checked num symbol placed raw
  interval-print i = refl

  mapping-print : (m : Mapping) → many.print m ≡ printed_mapping m
  unfolding mapping named asks ◌then◌ limited symbol placed checked raw
  mapping-print m = ap (λ u. m.raw_symbol.text ++ (little 4 (length m.intervals) ++ u)) (times-print span printed_interval interval-print m.intervals)

  pub symbology-print : (t : Symbology) → all.print t ≡ printed_symbology t
  unfolding symbology named ◌then◌ limited
  symbology-print t =
      ap₂ ◌++◌ (list-print t.symbols) (ap₂ ◌++◌ (list-print t.partial) (ap₂ ◌++◌ (list-print t.not_found)
      (ap (λ u. little 4 (length t.mappings) ++ u) (times-print many printed_mapping mapping-print t.mappings))))

  -- ---- places do not matter to the rows, starts apart

  list-bare : (kind : ℕ) (xs : List Symbol) (n : ℕ) → map no_start6 (list_rows kind xs n) ≡ list_rows kind ((list utf8 nul_padded is_date width).codec.bare xs) n
  unfolding list limited symbol named placed checked raw
  list-bare kind = from-bare one (λ s n. list_row kind s n ∷ []) (λ s n. refl)

  mapping-bare : (m : Mapping) (n : ℕ) → map no_start6 (mapping_rows m n) ≡ mapping_rows (many.bare m) n
  unfolding mapping named asks ◌then◌ limited interval date num symbol placed checked raw
  mapping-bare m n =
      ap₂ (λ k rs. symbol_row 3 (record { start = 0; text = m.raw_symbol.text }) k 0 n ∷ rs) (sym (length-bare span (interval utf8 nul_padded is_date width).law m.intervals))
      (map-map no_start6 (interval_row n) m.intervals ∙ map-bare span (λ i. no_start6 (interval_row n i)) (interval_row n) (λ i. refl) m.intervals)

  -- the rows without their starts are those of the symbology without its places
  pub rows-bare : (t : Symbology) → map no_start6 (symbology_rows t) ≡ symbology_rows (all.bare t)
  unfolding symbology_rows symbology named ◌then◌ limited
  rows-bare t =
      let bare = (list utf8 nul_padded is_date width).codec.bare in
      let maps = each_from mapping_rows t.mappings in
      let maps' = each_from mapping_rows (times_bare many t.mappings) in
      let third = list_rows 2 t.not_found in
      let third' = list_rows 2 (bare t.not_found) in
      let second = list_rows 1 t.partial in
      let second' = list_rows 1 (bare t.partial) in
      then-bare (list_rows 0 t.symbols) (list_rows 0 (bare t.symbols)) (second and_then third and_then maps) (second' and_then third' and_then maps') 0 (list-bare 0 t.symbols 0)
      (λ i. then-bare second second' (third and_then maps) (third' and_then maps') i (list-bare 1 t.partial i)
      (λ j. then-bare third third' maps maps' j (list-bare 2 t.not_found j) (from-bare many mapping_rows mapping-bare t.mappings)))

  pub rows-still : (p : ℕ) (t : Symbology) → map no_start6 (symbology_rows (all.locate p t)) ≡ map no_start6 (symbology_rows t)
  rows-still p t = rows-bare (all.locate p t) ∙ ap symbology_rows ((symbology utf8 nul_padded is_date width).law.still p t) ∙ sym (rows-bare t)

  -- ---- nor to the texts

  list-texts : (xs : List Symbol) → list_texts xs ≡ list_texts ((list utf8 nul_padded is_date width).codec.bare xs)
  unfolding list limited symbol named placed checked raw
  list-texts = map-bare one (λ s. s.text) (λ s. s.text) (λ s. refl)

  mapping-texts : (m : Mapping) → mapping_texts m ≡ mapping_texts (many.bare m)
  unfolding mapping named asks ◌then◌ limited interval date num symbol placed checked raw
  mapping-texts m = ap (λ us. m.raw_symbol.text ∷ us) (map-bare span (λ i. i.symbol.text) (λ i. i.symbol.text) (λ i. refl) m.intervals)

  texts-bare : (t : Symbology) → symbol_texts t ≡ symbol_texts (all.bare t)
  unfolding symbology named ◌then◌ limited
  texts-bare t = ap₂ ◌++◌ (list-texts t.symbols) (ap₂ ◌++◌ (list-texts t.partial) (ap₂ ◌++◌ (list-texts t.not_found) (ap flat (map-bare many mapping_texts mapping_texts mapping-texts t.mappings))))

  pub texts-still : (p : ℕ) (t : Symbology) → symbol_texts (all.locate p t) ≡ symbol_texts t
  texts-still p t = texts-bare (all.locate p t) ∙ ap symbol_texts ((symbology utf8 nul_padded is_date width).law.still p t) ∙ sym (texts-bare t)

  -- ---- what the rows name

  module _ (b : List ℕ) where
    symbol-names : (kind x y owner : ℕ) (s : Symbol) → Stands b s.start s.text → name_in b (symbol_row kind s x y owner) ≡ trimmed s.text
    symbol-names kind x y owner s h =
        let n = trimmed_len s.text in
        sym (take-take n (length s.text) (drop s.start b) (trimmed-le s.text)) ∙ ap (take n) h

    list-names : (kind : ℕ) (xs : List Symbol) (n : ℕ) → (list utf8 nul_padded is_date width).codec.each (Stands b) xs → map (name_in b) (list_rows kind xs n) ≡ map trimmed (list_texts xs)
    unfolding list limited symbol named placed checked raw
    list-names kind [] n e = refl
    list-names kind (s ∷ xs) n e = ap₂ ◌∷◌ (symbol-names kind 0 0 n s e.0) (list-names kind xs _ e.1)

    mapping-names : (m : Mapping) (n : ℕ) → many.each (Stands b) m → map (name_in b) (mapping_rows m n) ≡ map trimmed (mapping_texts m)
    unfolding mapping named asks ◌then◌ limited interval date num symbol placed checked raw
    mapping-names m n e =
        ap₂ ◌∷◌ (symbol-names 3 (length m.intervals) 0 n m.raw_symbol e.0)
        (row-names span b (interval_row n) (λ i. i.symbol.text) (λ i h. symbol-names 4 (day_of i.from) (day_of i.to) n i.symbol h.1.1) m.intervals e.1)

    -- where every symbol stands in b at its start, each row names its symbol without the NULs at its end
    pub rows-texts : (t : Symbology) → all.each (Stands b) t → map (name_in b) (symbology_rows t) ≡ map trimmed (symbol_texts t)
    unfolding symbology_rows symbology named ◌then◌ limited
    rows-texts t e =
        lists 0 t.symbols 0 e.0 _ _
        (lists 1 t.partial _ e.1.0 _ _
        (lists 2 t.not_found _ e.1.1.0 _ _
        (from-names many b mapping_rows mapping_texts mapping-names t.mappings _ e.1.1.1)))
      where
        lists : (kind : ℕ) (xs : List Symbol) (n : ℕ) → (list utf8 nul_padded is_date width).codec.each (Stands b) xs → (rest us : List (List ℕ)) → map (name_in b) rest ≡ map trimmed us → map (name_in b) (list_rows kind xs n ++ rest) ≡ map trimmed (list_texts xs ++ us)
        lists kind xs n e rest us g = both-names b (list_rows kind xs n) rest (list_texts xs) us (list-names kind xs n e) g
