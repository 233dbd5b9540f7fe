-- The promise of all three functions leaves no freedom. Assumes nothing.
use Rattle.std.specs.Prelude.{ℕ, ◌≡◌, List}
use Rattle.std.proofs.Common.{sym, ◌∙◌}
use Rattle.put.specs.Output.{Stored}

pub one_stored : (at : ℕ) (bs o o₁ o₂ : List ℕ) (r₁ r₂ : ℕ) → Stored at bs o o₁ r₁ → Stored at bs o o₂ r₂ → (r₁ ≡ r₂) × (o₁ ≡ o₂)
one_stored at bs o o₁ o₂ r₁ r₂ e f = (e.next ∙ sym f.next, e.bytes ∙ sym f.bytes)
