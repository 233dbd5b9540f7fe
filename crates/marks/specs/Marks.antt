-- 65,536 marks in 1,024 words of 64. Mark k is bit k % 64 of word k / 64.
-- Assumes nothing.
use Rattle.std.specs.Prelude.{ℕ, ◌/◌, ◌%◌, ◌^◌, ◌<◌, ◌≡◌, Bool, true, List, get_or, set, length, eqb}
use Rattle.std.specs.Int.Bits.{bit_or}
use Rattle.codec.specs.Codec.{among}

-- whether mark k is set
abbrev pub marked : List ℕ → ℕ → Bool
marked ws k = eqb (get_or ws (k / 64) 0 / 2 ^ (k % 64) % 2) 1

-- the words with mark k set
abbrev pub with_mark : List ℕ → ℕ → List ℕ
with_mark ws k = set ws (k / 64) (bit_or (get_or ws (k / 64) 0) (2 ^ (k % 64)))

-- the words without mark k and the other marks of its word
abbrev pub wiped : List ℕ → ℕ → List ℕ
wiped ws k = set ws (k / 64) 0

-- the words hold the marks of exactly these numbers
pub record Marks (ws ks : List ℕ) : Type 0 where
  pub words : length ws ≡ 1024
  pub right : (k : ℕ) → k < 65536 → marked ws k ≡ among k ks

-- the words hold no other marks than these
pub record Only (ws ks : List ℕ) : Type 0 where
  pub words : length ws ≡ 1024
  pub only : (k : ℕ) → k < 65536 → marked ws k ≡ true → among k ks ≡ true
