-- The eleven bytes of a field row, and the numbers of eleven bytes. Assumes nothing.
use Prim.Native.Nat.{ℕ, zero, suc, ◌+◌, ◌%◌, ◌<◌}
use Rattle.std.proofs.Common.{add-zero, ◌∙◌, get_or-take, get_or-drop, lit<}
use native.Mathlib.Omega.{arith}
use Rattle.std.specs.Prelude.{◌≡◌, length, take, drop}
use Rattle.std.proofs.Math.Path.{refl, ap₂}
use mathlib.Core.List.{List, [], ◌∷◌, map}
use Rattle.std.proofs.Math.ListN.{get_or}
use Rattle.entry.specs.Entry.{entry_bytes, cut_bytes, row_bytes, field_numbers}

module _ (t : List ℕ) (at : ℕ) where
  -- what stands in a part of n from `at` on
  pub in_part : (n j : ℕ) → j < n → get_or (take n (drop at t)) j 0 ≡ get_or t (at + j) 0
  in_part n j h = get_or-take n (drop at t) j 0 h ∙ get_or-drop at t j 0

  -- an entry's bytes are those of its part alone
  pub entry-bytes-alone : entry_bytes (take 11 (drop at t)) 0 ≡ entry_bytes t at
  entry-bytes-alone =
      rw (in_part 11 0 (lit< tt), in_part 11 1 (lit< tt), in_part 11 2 (lit< tt), in_part 11 3 (lit< tt), in_part 11 4 (lit< tt), in_part 11 5 (lit< tt), in_part 11 6 (lit< tt), in_part 11 7 (lit< tt), in_part 11 8 (lit< tt), in_part 11 9 (lit< tt), in_part 11 10 (lit< tt), add-zero at)

  pub row-bytes-length : length (row_bytes t at) ≡ 11
  unfolding row_bytes cut_bytes
  row-bytes-length = refl

  -- each is a byte
  pub row-bytes-small : (k : ℕ) → get_or (row_bytes t at) k 0 < 256
  unfolding row_bytes cut_bytes
  row-bytes-small = small (_ ∷ _ ∷ _ ∷ _ ∷ _ ∷ _ ∷ _ ∷ _ ∷ _ ∷ _ ∷ _ ∷ [])
    where
      small : (xs : List ℕ) (k : ℕ) → get_or (map (λ (x : ℕ). x % 256) xs) k 0 < 256
      small [] k = omega arith
      small (x ∷ xs) zero = omega arith
      small (x ∷ xs) (suc k) = small xs k

  -- they are those of the row alone
  pub row-bytes-alone : row_bytes (take 9 (drop at t)) 0 ≡ row_bytes t at
  unfolding row_bytes
  row-bytes-alone = rw (in_part 9 1 (lit< tt), in_part 9 2 (lit< tt), in_part 9 3 (lit< tt), in_part 9 4 (lit< tt), in_part 9 5 (lit< tt), in_part 9 6 (lit< tt), in_part 9 7 (lit< tt))

  -- numbers that have their width on the wire come back
  pub row-numbers : (get_or t (at + 1) 0 < 65536) → (get_or t (at + 2) 0 < 65536) → (get_or t (at + 3) 0 < 65536) → (get_or t (at + 4) 0 < 256) → (get_or t (at + 5) 0 < 256) → (get_or t (at + 6) 0 < 65536) → (get_or t (at + 7) 0 < 256)
      → field_numbers (row_bytes t at) ≡ get_or t (at + 1) 0 ∷ get_or t (at + 2) 0 ∷ get_or t (at + 3) 0 ∷ get_or t (at + 4) 0 ∷ get_or t (at + 5) 0 ∷ get_or t (at + 6) 0 ∷ get_or t (at + 7) 0 ∷ []
  unfolding row_bytes cut_bytes
  row-numbers a b c d e f g =
      ap₂ ◌∷◌ (omega arith) (ap₂ ◌∷◌ (omega arith) (ap₂ ◌∷◌ (omega arith) (ap₂ ◌∷◌ (omega arith) (ap₂ ◌∷◌ (omega arith) (ap₂ ◌∷◌ (omega arith) (ap₂ ◌∷◌ (omega arith) refl))))))
