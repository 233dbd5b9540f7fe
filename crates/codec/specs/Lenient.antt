-- A format with tests left out: what the full format reads, it reads as the same value, and stops at the same place.
-- Assumes nothing.
use Rattle.std.specs.Prelude.{ℕ, ◌≡◌, Bool, ◌||◌, List}
use Rattle.codec.specs.Codec.{ok, ◌>>=◌, Codec, little, num}

-- wherever c reads a value, d reads the same one
pub record Lenient {A : Type 0} (c d : Codec A) : Type 0 where
  pub reads : (base : ℕ) (s : List ℕ) (i : ℕ) (x : A) (j : ℕ) → c.parse base s i ≡ ok x j → d.parse base s i ≡ ok x j

-- a test, left out where `light` holds
abbrev pub lax : {A : Type 0} → Bool → (A → Bool) → A → Bool
lax light test x = light || test x

-- any number of w bytes in the place of b; k where they run past the end
unfoldable pub any_num : ℕ → ℕ → ℕ → Codec (Unit {0})
any_num k w b = record {
  parse = λ base s i. (num k w).parse base s i >>= λ x j. ok tt j;
  print = λ _. little w b;
  locate = λ p x. x;
  legal = λ _. Unit {0};
  bare = λ x. x;
  fits = λ x. Unit {0};
  each = λ P x. Unit {0};
}
