-- How each part of a symbology is read, by the ways to put formats together. Assumes nothing.
use Rattle.std.specs.Prelude.{ℕ, ◌+◌, ◌≡◌, Bool, List}
use Rattle.std.proofs.Math.Path.{refl}
use Rattle.codec.specs.Codec.{raw, num, named, checked, placed, asks, limited, ◌then◌}
use Rattle.symbology_format.specs.Symbology.{to_symbol, to_interval, to_mapping, to_symbology, symbol, date, list, interval, mapping, symbology}

module _ (utf8 nul_padded : List ℕ → Bool) (is_date : ℕ → Bool) (width base : ℕ) (s : List ℕ) (at : ℕ) where
  -- a symbol is tested for UTF-8 first, then for what follows a NUL
  pub parse-symbol : (k k' k'' : ℕ) → (symbol utf8 nul_padded is_date width k k' k'').codec.parse base s at
      ≡ (named to_symbol (λ x. (x.start, x.text)) (placed (checked nul_padded k'' (checked utf8 k' (raw k width))))).parse base s at
  unfolding symbol
  parse-symbol k k' k'' = refl

  pub parse-date : (k : ℕ) → (date utf8 nul_padded is_date width k).codec.parse base s at ≡ (checked is_date k (num k 4)).parse base s at
  unfolding date
  parse-date k = refl

  pub parse-list : (list utf8 nul_padded is_date width).codec.parse base s at ≡ (limited (symbol utf8 nul_padded is_date width 31 32 41).codec 30 31 4 width).parse base s at
  unfolding list
  parse-list = refl

  pub parse-interval : (interval utf8 nul_padded is_date width).codec.parse base s at
      ≡ (named to_interval (λ i. (i.from, (i.to, i.symbol))) ((date utf8 nul_padded is_date width 38).codec then (date utf8 nul_padded is_date width 39).codec then (symbol utf8 nul_padded is_date width 37 40 43).codec)).parse base s at
  unfolding interval
  parse-interval = refl

  pub parse-mapping : (mapping utf8 nul_padded is_date width).codec.parse base s at
      ≡ (named to_mapping (λ m. (m.raw_symbol, m.intervals)) (asks 35 (width + 4) ((symbol utf8 nul_padded is_date width 35 36 42).codec then limited (interval utf8 nul_padded is_date width).codec 35 37 4 (width + 8)))).parse base s at
  unfolding mapping
  parse-mapping = refl

  pub parse-symbology : (symbology utf8 nul_padded is_date width).codec.parse base s at
      ≡ (named to_symbology (λ t. (t.symbols, (t.partial, (t.not_found, t.mappings)))) ((list utf8 nul_padded is_date width).codec then (list utf8 nul_padded is_date width).codec then (list utf8 nul_padded is_date width).codec then limited (mapping utf8 nul_padded is_date width).codec 33 34 4 (width + 4))).parse base s at
  unfolding symbology
  parse-symbology = refl
