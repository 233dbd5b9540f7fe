-- Texts of bytes from 1 to 127. Assumes nothing.
use Rattle.std.specs.Prelude.{ℕ, Bool, ◌&&◌, List, ltb}
use Rattle.text.specs.All.{all}

-- a byte from 1 to 127
abbrev pub plain_byte : ℕ → Bool
plain_byte b = ltb 0 b && ltb b 128

-- every byte is one
abbrev pub plain : List ℕ → Bool
plain s = all plain_byte s
