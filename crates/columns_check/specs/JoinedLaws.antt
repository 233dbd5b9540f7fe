-- What rows give, one after the other, is what the symbols, mappings and intervals give that they stand for. Assumes nothing.
use Rattle.std.specs.Prelude.{ℕ, zero, suc, ◌+◌, ◌≡◌, refl, List, [], ◌++◌, map, length}
use Rattle.std.proofs.Common.{arith, sym, ap, ap₂, ◌∙◌, append_assoc}
use Rattle.table.specs.Table.{flat}
use Rattle.symbology_format.specs.Symbology.{Symbol, Interval, Mapping}
use Rattle.columns_check.specs.Tree.{kind_of, x_of, symbol_of, interval_of, symbols_from, intervals_from, mappings_from}
use Rattle.columns_check.specs.RowLaws.{Placed, done, mapping, interval, intervals-count}
use Rattle.columns_check.specs.FitLaws.{Along, first-of, next_of}

-- what n rows from row r on give, joined
abbrev pub joined : {A : Type 0} → (ℕ → List A) → ℕ → ℕ → List A
joined f r zero = []
joined f r (suc n) = f r ++ joined f (r + 1) n

-- a rows, then b others
pub joined-then : {A : Type 0} (f : ℕ → List A) (r a m b n : ℕ) → m ≡ r + a → n ≡ a + b → joined f r a ++ joined f m b ≡ joined f r n
joined-then f r zero m b n e h = let e' : m ≡ r = omega arith in let h' : b ≡ n = omega arith in ap₂ (joined f) e' h'
joined-then f r (suc a) m b n e h =
    let h' : suc (a + b) ≡ n = omega arith in
    append_assoc (f r) (joined f (r + 1) a) (joined f m b) ∙ ap (λ u. f r ++ u) (joined-then f (r + 1) a m b (a + b) (omega arith) refl) ∙ ap (joined f r) h'

module _ (width : ℕ) (t text : List ℕ) where
  -- where none is to come there is none
  pub no-intervals : {r n owner : ℕ} → Placed t r n owner 0 → intervals_from width t text r n ≡ []
  no-intervals done = refl
  no-intervals (mapping k p) = rw k

  module _ {A : Type 0} (f : ℕ → List A) where
    -- of a list
    pub joined-symbols : (g : Symbol → List A) (r n : ℕ) → Along (λ j. f j ≡ g (symbol_of width t text j)) r n → joined f r n ≡ flat (map g (symbols_from width t text r n))
    joined-symbols g r zero h = refl
    joined-symbols g r (suc n) h = ap₂ ◌++◌ (first-of n h) (joined-symbols g (r + 1) n (next_of n h))

    -- of mappings: a part for each mapping's own row, then one for each of its intervals
    module _ (g : Interval → List A) (head : Symbol → ℕ → List A) (each : Mapping → List A) (split : (m : Mapping) → each m ≡ head m.raw_symbol (length m.intervals) ++ flat (map g m.intervals))
        (of-interval : (j : ℕ) → kind_of t j ≡ 4 → f j ≡ g (interval_of width t text j)) (of-mapping : (j : ℕ) → kind_of t j ≡ 3 → f j ≡ head (symbol_of width t text j) (x_of t j)) where
      joined-placed : {r n owner due : ℕ} → Placed t r n owner due → joined f r n ≡ flat (map g (intervals_from width t text r n)) ++ flat (map each (mappings_from width t text r n))
      joined-placed done = refl
      joined-placed {r} (mapping {n = n} k p) =
          let own = head (symbol_of width t text r) (x_of t r) in
          let spans = flat (map g (intervals_from width t text (r + 1) n)) in
          rw (k, split (record { raw_symbol = symbol_of width t text r; intervals = intervals_from width t text (r + 1) n }), intervals-count width t text p) (ap₂ ◌++◌ (of-mapping r k) (joined-placed p) ∙ sym (append_assoc own spans _))
      joined-placed {r} (interval {n = n} k o p) =
          rw k (ap₂ ◌++◌ (of-interval r k) (joined-placed p) ∙ sym (append_assoc (g (interval_of width t text r)) (flat (map g (intervals_from width t text (r + 1) n))) _))

      pub joined-mappings : {r n owner : ℕ} → Placed t r n owner 0 → joined f r n ≡ flat (map each (mappings_from width t text r n))
      joined-mappings {r} {n} p = joined-placed p ∙ ap (λ (is : List Interval). flat (map g is) ++ flat (map each (mappings_from width t text r n))) (no-intervals p)
