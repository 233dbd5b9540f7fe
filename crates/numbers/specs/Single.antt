-- Two answers that meet the same public promise are equal. Assumes nothing.
use Rattle.std.specs.Prelude.{ℕ, ◌+◌, ◌-◌, ◌<◌, ◌≡◌, List, length}
use Rattle.std.proofs.Common.{sym, ◌∙◌}
use Rattle.numbers.specs.Numbers.{take_at, num_at, Past, Got}

-- of `wide`, and of whatever else promises a number v and that it is below b
pub below : (v b r r' : ℕ) → (r ≡ v) × (r < b) → (r' ≡ v) × (r' < b) → r ≡ r'
below v b r r' e f = e.0 ∙ sym f.0

module _ (s : List ℕ) (at : ℕ) where
  pub left : (r r' : ℕ) → r ≡ length s - at → r' ≡ length s - at → r ≡ r'
  left r r' e f = e ∙ sym f

  module _ (r r' : Got) where
    pub take : (n why : ℕ) → (r ≡ take_at why n s at) × Past (n + 1) n s at r → (r' ≡ take_at why n s at) × Past (n + 1) n s at r' → r ≡ r'
    take n why e f = e.0 ∙ sym f.0

    -- numbers of any width w
    pub number : (b w why : ℕ) → (r ≡ num_at why w s at) × Past b w s at r → (r' ≡ num_at why w s at) × Past b w s at r' → r ≡ r'
    number b w why e f = e.0 ∙ sym f.0
