-- Texts of a fixed width, filled up with NULs, as document 02's request 4 has them. Assumes nothing.
use Rattle.std.specs.Prelude.{ℕ, zero, suc, Bool, true, false, ◌&&◌, List, [], ◌∷◌, take, drop}
use Rattle.text.specs.Ascii.{ascii}

-- NULs only
abbrev pub nuls : List ℕ → Bool
nuls [] = true
nuls (zero ∷ s) = nuls s
nuls (suc b ∷ s) = false

-- after a NUL only NULs follow
abbrev pub nul_padded : List ℕ → Bool
nul_padded [] = true
nul_padded (zero ∷ s) = nuls s
nul_padded (suc b ∷ s) = nul_padded s

-- the name that such a text has: the bytes before the first NUL
abbrev pub before_nul : List ℕ → List ℕ
before_nul [] = []
before_nul (zero ∷ s) = []
before_nul (suc b ∷ s) = suc b ∷ before_nul s

-- each of the first n texts of w bytes of s is such
unfoldable pub each_padded : ℕ → ℕ → List ℕ → Bool
each_padded w zero s = true
each_padded w (suc n) s = (ascii (take w s) && nul_padded (take w s)) && each_padded w n (drop w s)
