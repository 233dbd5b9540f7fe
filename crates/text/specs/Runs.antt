-- Runs of bytes that are looked at together.
-- Assumes nothing.
use Rattle.std.specs.Prelude.{List, [], ◌∷◌, ℕ, ◌≤◌, ◌<◌, length, get_or}
use Rattle.std.specs.Int.Bits.{bit_or}

-- the bits of x and of all bytes of s
abbrev pub ored : ℕ → List ℕ → ℕ
ored x [] = x
ored x (b ∷ s) = ored (bit_or x b) s

-- the bytes of s from a up to e are below m
abbrev pub Below : ℕ → List ℕ → ℕ → ℕ → Type 0
Below m s a e = (k : ℕ) → a ≤ k → k < e → get_or s k 0 < m

-- from `from` up to r, a place of s, all is below 128
pub record Skipped (s : List ℕ) (from r : ℕ) : Type 0 where
  pub on : from ≤ r
  pub within : r ≤ length s
  pub low : Below 128 s from r
