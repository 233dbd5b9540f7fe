-- No promise leaves a choice: two answers that meet it, to the same input, are equal. Assumes nothing.
use Rattle.std.specs.Prelude.{ℕ, ◌≡◌}
use Rattle.std.proofs.Common.{sym, ◌∙◌}
use Rattle.metadata_lengths.specs.Lengths.{lengths}
use Rattle.metadata_lengths.specs.declared.MetadataLengths.{MetadataLengths}

pub lengths_single : (v : ℕ) {r₁ r₂ : MetadataLengths} → r₁ ≡ lengths v → r₂ ≡ lengths v → r₁ ≡ r₂
lengths_single v p q = p ∙ sym q
