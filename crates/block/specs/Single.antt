-- No promise leaves a choice: two answers that meet it, to the same input, are equal. Assumes nothing.
use Rattle.block_format.specs.declared.Fields.{Fields}
use Rattle.block_format.specs.declared.ReadError.{ReadError}
use Rattle.std.specs.Prelude.{ℕ, ◌≡◌, List, Result}
use Rattle.std.proofs.Common.{sym, ◌∙◌}
use Rattle.block_format.specs.Read.{Promise}

pub read-block_single : {v : ℕ} {b t s l s₁ l₁ s₂ l₂ : List ℕ} {r₁ r₂ : Result Fields ReadError} → Promise v b t s l r₁ s₁ l₁ → Promise v b t s l r₂ s₂ l₂ → (r₁ ≡ r₂) × (s₁ ≡ s₂) × (l₁ ≡ l₂)
read-block_single p q = (p.answer ∙ sym q.answer, p.symbology ∙ sym q.symbology, p.layout ∙ sym q.layout)
