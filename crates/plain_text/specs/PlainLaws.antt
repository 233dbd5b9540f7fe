-- A text of bytes from 1 to 127 is UTF-8. Assumes nothing.
use Rattle.std.specs.Prelude.{ℕ, ◌<◌, ◌≡◌, refl, true, List, [], ◌∷◌, ltb}
use Rattle.std.proofs.Common.{ltb-true, lt-ltb}
use Rattle.text.specs.Utf8.{utf8}
use Rattle.text.specs.Ascii.{ascii}
use Rattle.text.specs.AsciiLaws.{ascii-utf8}
use Rattle.text.specs.AndLaws.{and_left, and_right}
use Rattle.plain_text.specs.Plain.{plain_byte, plain}

-- the first byte of a plain text, and the rest
pub plain-next : (b : ℕ) (s : List ℕ) → plain (b ∷ s) ≡ true → (0 < b) × (b < 128) × (plain s ≡ true)
plain-next b s e =
    let x = and_left (plain_byte b) (plain s) e in
    (ltb-true 0 b (and_left (ltb 0 b) (ltb b 128) x), ltb-true b 128 (and_right (ltb 0 b) (ltb b 128) x), and_right (plain_byte b) (plain s) e)

-- its bytes are below 128
plain-ascii : (s : List ℕ) → plain s ≡ true → ascii s ≡ true
plain-ascii [] e = refl
plain-ascii (b ∷ s) e =
    let (low, high, rest) = plain-next b s e in
    rw (lt-ltb b 128 high) (plain-ascii s rest)

-- so it is UTF-8
pub plain-utf8 : (s : List ℕ) → plain s ≡ true → utf8 s ≡ true
plain-utf8 s e = ascii-utf8 s (plain-ascii s e)
