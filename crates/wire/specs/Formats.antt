-- Names and sections of a layout, as document 01's "Bytes on the wire" has them: the tree and the format of each.
-- Assumes nothing.
use Rattle.std.specs.Prelude.{ℕ, refl, Bool, true, false, not, List}
use Rattle.std.proofs.Math.ListN.{length}
use Rattle.codec.specs.Codec
use Rattle.codec.specs.Codec.{among}
use Rattle.codec.proofs.Format.{Format, raw, num, closed, named, checked, placed, sized, boxed}

-- `start` is the place of the first byte of the text, counted from the layout
pub record Name : Type 0 where
  pub start : ℕ
  pub text : List ℕ

abbrev pub u16 : Format ℕ false
u16 = num 50 2

abbrev pub u64 : Format ℕ false
u64 = num 50 8

abbrev pub no_nul : List ℕ → Bool
no_nul t = not (among 0 t)

-- a layout's section: u16 length that counts its own two bytes; 50 where length or body is cut short, 51 below 2
unfoldable pub section : {A : Type 0} → Format A false → Format (A × List ℕ) false
section F = boxed 50 51 50 2 2 F

-- what the text of a name is asked: to hold no NUL, and to be UTF-8
pub record Tests : Type 0 where
  pub no_nul : List ℕ → Bool
  pub utf8 : List ℕ → Bool

module _ (tests : Tests) where
  -- n bytes; 50 where they are cut short, 52 for a NUL among them, 53 where they are not UTF-8
  unfoldable pub text_of : ℕ → Format (ℕ × List ℕ) true
  unfolding Codec.raw Codec.checked
  text_of n = placed (checked tests.utf8 53 (checked tests.no_nul 52 (raw 50 n) (λ x. refl)) (λ x. refl))

  -- length byte and bytes
  unfoldable pub text : Format (ℕ × List ℕ) true
  unfolding text_of Codec.raw Codec.checked Codec.placed
  text = sized 50 1 (λ z. length z.1) text_of (λ n x lg. lg.0.0.0) (λ n x. refl)

  -- length byte, bytes, one NUL; 50 where the last byte is missing, 54 where it is no NUL
  unfoldable pub name : Format Name false
  name = named (λ z. record { start = z.0.0; text = z.0.1 }) (λ n. ((n.start, n.text), tt)) (λ x. refl) (closed 50 54 0 text)
