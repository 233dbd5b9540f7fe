-- Bytes without the zeros at their end.
-- Assumes nothing.
use Rattle.std.specs.Prelude.{List, [], ◌∷◌, ℕ, zero, suc, ◌+◌, ◌≤◌, ◌<◌, length}

-- how many are kept of a byte b before n kept bytes: a zero that nothing kept follows is not
abbrev pub kept : ℕ → ℕ → ℕ
kept zero zero = zero
kept (suc b) zero = suc zero
kept b (suc n) = suc (suc n)

-- the length without the zeros at the end; a zero before a byte that is no zero counts
abbrev pub trimmed_len : List ℕ → ℕ
trimmed_len [] = zero
trimmed_len (b ∷ s) = kept b (trimmed_len s)

-- e is a length of s that is not too short, and less than n too long
pub record Near (n : ℕ) (s : List ℕ) (e : ℕ) : Type 0 where
  pub least : trimmed_len s ≤ e
  pub within : e ≤ length s
  pub near : e < trimmed_len s + n
