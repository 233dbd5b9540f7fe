-- The entries of a source one by one: the first and the rest, how many there are, and that all lie in their slice. Assumes nothing.
use Prim.Native.Nat.{ℕ, zero, suc, ◌+◌, ◌-◌, ◌*◌, ◌≤◌, ◌<◌}
use native.Mathlib.Nat.{mul-suc, add_comm}
use native.Mathlib.Omega.{arith}
use Rattle.std.specs.Prelude.{◌≡◌, true, false, cond, take, drop}
use Rattle.std.proofs.Math.Path.{refl, ap}
use Rattle.std.proofs.Common.{◌∙◌}
use mathlib.Core.List.{List, [], ◌∷◌}
use Rattle.std.proofs.Math.ListN.{length}
use Rattle.item_rules.specs.declared.Source.{Source}
use Rattle.entry.specs.Entry.{entry_bytes, row_bytes}
use Rattle.entry.specs.EntryLaws.{entry-bytes-alone, row-bytes-alone}
use Rattle.item_rules.specs.Entries.{entry_at, entries_at, entry_of, entries_of, rest_of, InSlice}

-- n entries are one and n - 1 more
pub mul-step : (d n : ℕ) → 0 < n → d * n ≡ d + d * (n - 1)
mul-step d zero h = absurd (native.Mathlib.Nat.not-suc-le-zero h)
mul-step d (suc n) h = let less : n ≡ suc n - 1 = omega arith in mul-suc d n ∙ ap (λ (m : ℕ). d * m + d) less ∙ add_comm (d * (suc n - 1)) d

module _ (l t : List ℕ) where
  pub entries-cons : (s : Source) → 0 < s.count → entries_of l t s ≡ entry_of l t s ∷ entries_of l t (rest_of s)
  unfolding entries_of entry_of entries_at
  entries-cons s h = go s.at s.count h
    where
      go : (a n : ℕ) → 0 < n → entries_at l t s.rows s.step a n ≡ entry_at l t s.rows a ∷ entries_at l t s.rows s.step (a + s.step) (n - 1)
      go a zero h = absurd (native.Mathlib.Nat.not-suc-le-zero h)
      go a (suc n) h = let less : n ≡ suc n - 1 = omega arith in ap (λ (m : ℕ). entry_at l t s.rows a ∷ entries_at l t s.rows s.step (a + s.step) m) less

  pub entries-nil : (s : Source) → s.count ≤ 0 → entries_of l t s ≡ []
  unfolding entries_of entries_at
  entries-nil s h = go s.count h
    where
      go : (n : ℕ) → n ≤ 0 → entries_at l t s.rows s.step s.at n ≡ []
      go zero h = refl
      go (suc n) h = absurd (let z : ⊥ = omega arith in z)

  pub entries-length : (s : Source) → length (entries_of l t s) ≡ s.count
  unfolding entries_of entries_at
  entries-length s = go s.at s.count
    where
      go : (a n : ℕ) → length (entries_at l t s.rows s.step a n) ≡ n
      go a zero = refl
      go a (suc n) = ap suc (go (a + s.step) n)

  module _ {s : Source} (r : InSlice l t s) (h : 0 < s.count) where
    pub room-rest : InSlice l t (rest_of s)
    room-rest =
        let e = mul-step s.step s.count h in
        record { least = r.least; inside = omega (arith, r.inside); small = omega (arith, r.small) }

    -- the first entry lies in its slice
    pub first-inside : s.at + cond s.rows 9 11 ≤ cond s.rows (length t) (length l)
    first-inside =
        let e = mul-step s.step s.count h in
        omega (arith, r.least, r.inside)

  -- the first entry, from the part that it is
  pub first-row : (s : Source) (r : List ℕ) → s.rows ≡ true → r ≡ row_bytes (take (s.at + 9 - s.at) (drop s.at t)) 0 → r ≡ entry_of l t s
  unfolding entry_of entry_at
  first-row s r h e = let n : s.at + 9 - s.at ≡ 9 = omega arith in rw h (e ∙ rw n (row-bytes-alone t s.at))

  pub first-bytes : (s : Source) (r : List ℕ) → s.rows ≡ false → r ≡ entry_bytes (take (s.at + 11 - s.at) (drop s.at l)) 0 → r ≡ entry_of l t s
  unfolding entry_of entry_at
  first-bytes s r h e = let n : s.at + 11 - s.at ≡ 11 = omega arith in rw h (e ∙ rw n (entry-bytes-alone l s.at))
