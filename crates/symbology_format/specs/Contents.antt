-- Which numbers the contents of a symbology give. Assumes nothing.
use Rattle.std.specs.Prelude.{ℕ, Bool, List, [], ◌∷◌}
use Rattle.std.proofs.Math.Path.{refl}
use Rattle.codec.specs.Refusals.{In}
use Rattle.symbology_format.specs.Symbology.{symbol, date, list, interval, mapping, symbology}

abbrev pub contents_numbers : List ℕ
contents_numbers = 30 ∷ 31 ∷ 32 ∷ 33 ∷ 34 ∷ 35 ∷ 36 ∷ 37 ∷ 38 ∷ 39 ∷ 40 ∷ 41 ∷ 42 ∷ 43 ∷ []

module _ (P : ℕ → Type 0) (h : (k : ℕ) → In contents_numbers k → P k) where
  pub symbology-numbers : (utf8 nul_padded : List ℕ → Bool) (is_date : ℕ → Bool) (width : ℕ) → (symbology utf8 nul_padded is_date width).numbers P
  unfolding symbol date list interval mapping symbology
  symbology-numbers utf8 nul_padded is_date width =
      let lists : ((P 31 × P 32) × P 41) × (P 30 × P 31) = (((h 31 refl, h 32 refl), h 41 refl), (h 30 refl, h 31 refl)) in
      let intervals : (P 38 × P 38) × ((P 39 × P 39) × ((P 37 × P 40) × P 43)) = ((h 38 refl, h 38 refl), ((h 39 refl, h 39 refl), ((h 37 refl, h 40 refl), h 43 refl))) in
      let mappings : (((P 35 × P 36) × P 42) × (((P 38 × P 38) × ((P 39 × P 39) × ((P 37 × P 40) × P 43))) × (P 35 × P 37))) × P 35 = ((((h 35 refl, h 36 refl), h 42 refl), (intervals, (h 35 refl, h 37 refl))), h 35 refl) in
      (lists, (lists, (lists, (mappings, (h 33 refl, h 34 refl)))))
