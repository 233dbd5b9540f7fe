-- The promise leaves no choice: two answers that meet it, to the same input, are equal. Assumes nothing.
use Rattle.std.specs.Prelude.{ℕ, ◌≡◌, List}
use Rattle.std.proofs.Common.{sym, ◌∙◌}
use Rattle.layout.specs.Answers.{Answer}
use Rattle.given_layout.specs.Ruled.{Ruled}

pub read-layout_single : {w : ℕ} {s sheet t t₁ t₂ : List ℕ} {r₁ r₂ : Answer} → Ruled s w sheet t t₁ r₁ → Ruled s w sheet t t₂ r₂ → (r₁ ≡ r₂) × (t₁ ≡ t₂)
read-layout_single p q = (p.is ∙ sym q.is, p.leaves ∙ sym q.leaves)
