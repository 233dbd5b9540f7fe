-- Letters of two bytes: Table 3-7's second row. Assumes nothing.
use Rattle.std.specs.Prelude.{ℕ, ◌+◌, ◌-◌, Bool, ◌&&◌, List, leb, length, get_or}
use Rattle.text.specs.Utf8.{◌to◌, within}

-- two bytes as that row has them
abbrev pub letter : ℕ → ℕ → Bool
letter a b = within a (0xC2 to 0xDF) && within b (0x80 to 0xBF)

-- two bytes stand at i, and are such
abbrev pub letter_at : List ℕ → ℕ → Bool
letter_at s i = leb 2 (length s - i) && letter (get_or s i 0) (get_or s (i + 1) 0)
