-- Names with tests left out: what is accepted is read as the same. Assumes nothing.
use Rattle.std.specs.Prelude.{ℕ, ◌≡◌, true, false, List}
use Rattle.codec.specs.Codec.{raw, fixed}
use Rattle.codec.proofs.Format.{Format}
use Rattle.codec.specs.Lenient.{Lenient}
use Rattle.codec.proofs.LenientLaws.{lenient_same, lenient_test, lenient_named, lenient_placed, lenient_then, lenient_sized, lenient_boxed}
use Rattle.wire.specs.Formats.{Tests, section, text_of, text, name}

-- tests that pass what others pass
pub record Looser (tests tests' : Tests) : Type 0 where
  pub no_nul : (t : List ℕ) → tests.no_nul t ≡ true → tests'.no_nul t ≡ true
  pub utf8 : (t : List ℕ) → tests.utf8 t ≡ true → tests'.utf8 t ≡ true

module _ {tests tests' : Tests} (l : Looser tests tests') where
  lenient_text : (n : ℕ) → Lenient (text_of tests n).codec (text_of tests' n).codec
  unfolding text_of
  lenient_text n = lenient_placed (lenient_test (lenient_test (lenient_same (raw 50 n)) _ _ l.no_nul 52) _ _ l.utf8 53)

  pub lenient_name : Lenient (name tests).codec (name tests').codec
  unfolding name text
  lenient_name = lenient_named (lenient_then (lenient_sized 50 1 _ lenient_text) (lenient_same (fixed 50 54 1 0))) _ _

pub lenient_section : {A : Type 0} (F G : Format A false) → Lenient F.codec G.codec → Lenient (section F).codec (section G).codec
unfolding section
lenient_section F G h = lenient_boxed h 50 51 50 2 2 2 (λ p. p) _ _
