-- The two check words of a list of bytes, as document 02 has them.
-- Assumes nothing.
use Rattle.std.specs.Prelude.{ℕ, ◌+◌, ◌*◌, ◌%◌, List, [], ◌∷◌}
use Rattle.sums.specs.declared.Sums.{Sums}

-- bytes as little-endian words; an odd byte at the end is a word of its own
unfoldable pub words : List ℕ → List ℕ
words [] = []
words (x ∷ []) = x ∷ []
words (x ∷ y ∷ s) = (x + 256 * y) ∷ words s

-- the sum of numbers
unfoldable pub sum : List ℕ → ℕ
sum [] = 0
sum (w ∷ ws) = w + sum ws

-- the running sums of numbers, from a on
unfoldable pub running : ℕ → List ℕ → List ℕ
running a [] = []
running a (w ∷ ws) = (a + w) ∷ running (a + w) ws

-- the sum of the words
unfoldable pub check_a : List ℕ → ℕ
check_a ws = sum ws % 65535

-- the sum of the running sums
unfoldable pub check_b : List ℕ → ℕ
check_b ws = sum (running 0 ws) % 65535

-- the check words of bytes
abbrev pub sums_of : List ℕ → Sums
sums_of s = record { a = check_a (words s); b = check_b (words s) }

-- two sums modulo 65535
abbrev pub reduced : ℕ → ℕ → Sums
reduced a b = record { a = a % 65535; b = b % 65535 }

-- check words a and b with more words added
unfoldable pub sums_from : ℕ → ℕ → List ℕ → Sums
sums_from a b ws = reduced (a + sum ws) (b + sum (running a ws))
