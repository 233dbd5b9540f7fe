-- Two answers that meet the same public promise are equal. Assumes nothing.
use Rattle.std.specs.Prelude.{ℕ, ◌+◌, ◌≡◌, Bool, List}
use Rattle.std.proofs.Common.{sym, ◌∙◌}
use Rattle.codec.specs.Codec.{among}
use Rattle.numbers.specs.Numbers.{Past, Got}
use Rattle.wire.specs.Reader.{name_at, tests_of, section_at, Lies}

module _ (s : List ℕ) (at : ℕ) (r r' : Got) where
  -- of `name_in`, and of `name_at`, whose answer is that of the first with nothing left out
  pub name : (light : Bool) → (r ≡ name_at (tests_of light) s at) × Past 256 2 s at r → (r' ≡ name_at (tests_of light) s at) × Past 256 2 s at r' → r ≡ r'
  name light e f = e.0 ∙ sym f.0

  pub section : (r ≡ section_at s at) × Lies s (at + 2) r → (r' ≡ section_at s at) × Lies s (at + 2) r' → r ≡ r'
  section e f = e.0 ∙ sym f.0

pub has_nul : (s : List ℕ) (r r' : Bool) → r ≡ among 0 s → r' ≡ among 0 s → r ≡ r'
has_nul s r r' e f = e ∙ sym f
