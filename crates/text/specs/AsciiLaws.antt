-- Bytes below 128 are UTF-8. Assumes nothing.
use Rattle.std.specs.Prelude.{ℕ, ◌<◌, ◌≤◌, ◌≡◌, refl, true, List, [], ◌∷◌, ltb}
use Rattle.std.proofs.Common.{zero-le, arith, ltb-true, le-leb}
use Rattle.text.specs.Utf8.{utf8}
use Rattle.text.specs.Ascii.{ascii}
use Rattle.text.specs.AndLaws.{and_left, and_right}

pub ascii-utf8 : (s : List ℕ) → ascii s ≡ true → utf8 s ≡ true
unfolding utf8
ascii-utf8 [] e = refl
ascii-utf8 (b ∷ s) e =
    let high : b < 128 = ltb-true b 128 (and_left (ltb b 128) (ascii s) e) in
    let under : b ≤ 127 = omega arith in
    rw (le-leb 0 b zero-le, le-leb b 127 under) (ascii-utf8 s (and_right (ltb b 128) (ascii s) e))
