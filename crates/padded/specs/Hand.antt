-- Request 4's texts, by computation.
-- Assumes nothing.
use Rattle.std.specs.Prelude.{◌≡◌, refl, true, false, [], ◌∷◌}
use Rattle.padded.specs.Padded.{nul_padded, before_nul, each_padded}

-- P10: 45 53 00, whose name is 45 53; P11: 45 00 53; NULs, then a letter in the last byte
pub texts :
    (nul_padded (0x45 ∷ 0x53 ∷ 0x00 ∷ []) ≡ true)
    × (before_nul (0x45 ∷ 0x53 ∷ 0x00 ∷ []) ≡ 0x45 ∷ 0x53 ∷ [])
    × (nul_padded (0x45 ∷ 0x00 ∷ 0x53 ∷ []) ≡ false)
    × (nul_padded (0x00 ∷ 0x00 ∷ 0x53 ∷ []) ≡ false)
texts = (refl, refl, refl, refl)

-- NULs only, no byte at all, and no NUL
pub edges : (nul_padded (0x00 ∷ 0x00 ∷ []) ≡ true) × (nul_padded [] ≡ true) × (nul_padded (0x45 ∷ 0x53 ∷ []) ≡ true)
edges = (refl, refl, refl)

-- two texts of two bytes: a letter may follow the NUL of the text before, and not that of its own; a third is not looked at
pub pairs :
    (each_padded 2 2 (0x45 ∷ 0x00 ∷ 0x53 ∷ 0x00 ∷ []) ≡ true)
    × (each_padded 2 2 (0x45 ∷ 0x53 ∷ 0x00 ∷ 0x53 ∷ []) ≡ false)
    × (each_padded 2 2 (0x45 ∷ 0x53 ∷ 0x80 ∷ 0x00 ∷ []) ≡ false)
    × (each_padded 2 1 (0x45 ∷ 0x53 ∷ 0x80 ∷ 0x00 ∷ []) ≡ true)
unfolding each_padded
pairs = (refl, refl, refl, refl)
