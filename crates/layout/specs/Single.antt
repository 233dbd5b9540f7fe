-- Two answers that meet the same public promise are equal, and so are the tables they leave. Assumes nothing.
use Rattle.std.specs.Prelude.{ℕ, ◌≡◌, Bool, List}
use Rattle.std.proofs.Common.{sym, ◌∙◌}
use Rattle.layout.specs.Answers.{Answer, Answers}

module _ (light : Bool) (s : List ℕ) where
  pub read-layout-rows : (t t₁ t₂ : List ℕ) (r₁ r₂ : Answer) → Answers light s t t₁ r₁ → Answers light s t t₂ r₂ → (t₁ ≡ t₂) × (r₁ ≡ r₂)
  read-layout-rows t t₁ t₂ r₁ r₂ a b = (a.leaves ∙ sym b.leaves, a.is ∙ sym b.is)
