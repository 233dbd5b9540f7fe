-- Both check words are below 65535, and one changed byte changes the first.
-- Assumes nothing.
use Rattle.std.specs.Prelude.{ℕ, ◌+◌, ◌*◌, ◌%◌, ◌<◌, ◌≡◌, List, [], ◌∷◌, ◌++◌}
use Rattle.std.proofs.Common.{add_assoc, zero-add, arith}
use Rattle.codec.specs.CaseLaws.{by_order}
use Rattle.sums.specs.Sums.{words, sum, check_a, check_b}

pub a-below : (ws : List ℕ) → check_a ws < 65535
unfolding check_a
a-below ws = omega arith

pub b-below : (ws : List ℕ) → check_b ws < 65535
unfolding check_b
b-below ws = omega arith

-- x and y, which differ by less than 65535, leave different remainders after m and n
mod_changed : (k x y m n : ℕ) → x < 65535 → y < 65535 → (x ≡ y → ⊥) → m ≡ k + x → n ≡ k + y → m % 65535 ≡ n % 65535 → ⊥
mod_changed k x y m n p q d f g e = by_order x y (λ h. omega arith) d (λ h. omega arith)

-- the sum of the words changes with a byte, after words whose sum is k
sum_changed : (k : ℕ) (u v : List ℕ) (x y : ℕ) → x < 256 → y < 256 → (x ≡ y → ⊥)
    → (k + sum (words (u ++ (x ∷ v)))) % 65535 ≡ (k + sum (words (u ++ (y ∷ v)))) % 65535 → ⊥
unfolding words sum
sum_changed k [] [] x y p q d e = mod_changed k x y _ _ (omega arith) (omega arith) d (omega arith) (omega arith) e
sum_changed k [] (z ∷ v) x y p q d e = mod_changed (k + 256 * z + sum (words v)) x y _ _ (omega arith) (omega arith) d (omega arith) (omega arith) e
sum_changed k (z ∷ []) v x y p q d e = mod_changed (k + z + sum (words v)) (256 * x) (256 * y) _ _ (omega arith) (omega arith) (λ f. d (omega arith)) (omega arith) (omega arith) e
sum_changed k (w ∷ z ∷ u) v x y p q d e = sum_changed (k + (w + 256 * z)) u v x y p q d (rw (add_assoc k, add_assoc k) e)

-- one changed byte changes the sum of the words
pub a_changed : (u v : List ℕ) (x y : ℕ) → x < 256 → y < 256 → (x ≡ y → ⊥) → check_a (words (u ++ (x ∷ v))) ≡ check_a (words (u ++ (y ∷ v))) → ⊥
unfolding check_a
a_changed u v x y p q n e = sum_changed 0 u v x y p q n (simp zero-add e)
