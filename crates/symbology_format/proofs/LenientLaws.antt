-- The symbology with its tests of texts and dates left out: what is accepted is read as the same. Assumes nothing.
use Rattle.std.specs.Prelude.{ℕ, ◌+◌, ◌≡◌, refl, Bool, true, List}
use Rattle.codec.specs.Codec.{raw, num}
use Rattle.codec.specs.Lenient.{Lenient}
use Rattle.codec.proofs.LenientLaws.{lenient_same, lenient_test, lenient_named, lenient_placed, lenient_then, lenient_asks, lenient_limited}
use Rattle.symbology_format.specs.Symbology.{symbol, date, list, interval, mapping, symbology}

-- tests that pass what other tests pass
module _ {utf8 utf8' nul_padded nulPadded' : List ℕ → Bool} {is_date isDate' : ℕ → Bool} (texts : (u : List ℕ) → utf8 u ≡ true → utf8' u ≡ true) (nuls : (u : List ℕ) → nul_padded u ≡ true → nulPadded' u ≡ true) (dates : (n : ℕ) → is_date n ≡ true → isDate' n ≡ true) (width : ℕ) where
  lenient_symbol : (k k' k'' : ℕ) → Lenient (symbol utf8 nul_padded is_date width k k' k'').codec (symbol utf8' nulPadded' isDate' width k k' k'').codec
  unfolding symbol
  lenient_symbol k k' k'' = lenient_named (lenient_placed (lenient_test (lenient_test (lenient_same (raw k width)) utf8 utf8' texts k') nul_padded nulPadded' nuls k'')) _ _

  lenient_date : (k : ℕ) → Lenient (date utf8 nul_padded is_date width k).codec (date utf8' nulPadded' isDate' width k).codec
  unfolding date
  lenient_date k = lenient_test (lenient_same (num k 4)) is_date isDate' dates k

  lenient_list : Lenient (list utf8 nul_padded is_date width).codec (list utf8' nulPadded' isDate' width).codec
  unfolding list
  lenient_list = lenient_limited (lenient_symbol 31 32 41) 30 31 4 width

  lenient_interval : Lenient (interval utf8 nul_padded is_date width).codec (interval utf8' nulPadded' isDate' width).codec
  unfolding interval
  lenient_interval = lenient_named (lenient_then (lenient_date 38) (lenient_then (lenient_date 39) (lenient_symbol 37 40 43))) _ _

  lenient_mapping : Lenient (mapping utf8 nul_padded is_date width).codec (mapping utf8' nulPadded' isDate' width).codec
  unfolding mapping
  lenient_mapping = lenient_named (lenient_asks (lenient_then (lenient_symbol 35 36 42) (lenient_limited lenient_interval 35 37 4 (width + 8))) 35 (width + 4)) _ _

  pub lenient_symbology : Lenient (symbology utf8 nul_padded is_date width).codec (symbology utf8' nulPadded' isDate' width).codec
  unfolding symbology
  lenient_symbology =
      lenient_named (lenient_then lenient_list (lenient_then lenient_list (lenient_then lenient_list (lenient_limited lenient_mapping 33 34 4 (width + 4))))) _ _

-- no test at all
pub no-tests : (utf8 nul_padded : List ℕ → Bool) (is_date : ℕ → Bool) (width : ℕ) → Lenient (symbology utf8 nul_padded is_date width).codec (symbology (λ _. true) (λ _. true) (λ _. true) width).codec
no-tests utf8 nul_padded is_date width = lenient_symbology (λ u e. refl) (λ u e. refl) (λ n e. refl) width
