-- What an answer says of the text. Assumes nothing.
use Rattle.std.specs.Prelude.{Result, Ok, Err, ℕ, ◌≡◌, refl, Bool, true, false, ◌&&◌, List}
use Rattle.std.proofs.Common.{sym, subst}
use Rattle.text.specs.Utf8.{utf8}
use Rattle.text.specs.Ascii.{ascii}
use Rattle.text.specs.AsciiLaws.{ascii-utf8}
use Rattle.text.specs.AndLaws.{and_left, and_right}
use Rattle.padded.specs.Padded.{nul_padded}
use Rattle.padded.specs.PaddedAnswer.{told, padded_of}
use Rattle.padded.specs.declared.Fault.{Fault}
use Rattle.padded.specs.declared.Fault.TheVariants.{NotUtf8, AfterNul}

abbrev Says : Bool → Bool → Result Unit Fault → Type 0
Says u p (Ok t) = (u ≡ true) × (p ≡ true)
Says u p (Err NotUtf8) = u ≡ false
Says u p (Err AfterNul) = (u ≡ true) × (p ≡ false)

says : (u p : Bool) → Says u p (told u p)
says true true = (refl, refl)
says true false = (refl, refl)
says false p = refl

module _ (s : List ℕ) where
  pub told-fine : Ok tt ≡ padded_of s → (utf8 s ≡ true) × (nul_padded s ≡ true)
  told-fine e = subst (Says (utf8 s) (nul_padded s)) (sym e) (says (utf8 s) (nul_padded s))

  pub told-not-utf8 : Err NotUtf8 ≡ padded_of s → utf8 s ≡ false
  told-not-utf8 e = subst (Says (utf8 s) (nul_padded s)) (sym e) (says (utf8 s) (nul_padded s))

  pub told-after_nul : Err AfterNul ≡ padded_of s → (utf8 s ≡ true) × (nul_padded s ≡ false)
  told-after_nul e = subst (Says (utf8 s) (nul_padded s)) (sym e) (says (utf8 s) (nul_padded s))

-- bytes below 128 are UTF-8
pub padded-ascii : (s : List ℕ) → true ≡ (ascii s && nul_padded s) → (utf8 s ≡ true) × (nul_padded s ≡ true)
padded-ascii s e = (ascii-utf8 s (and_left (ascii s) (nul_padded s) (sym e)), and_right (ascii s) (nul_padded s) (sym e))
