-- No promise leaves a choice: two answers that meet it, to the same input, are equal. Assumes nothing.
use Rattle.std.specs.Prelude.{ℕ, ◌≡◌, List, length}
use Rattle.std.proofs.Common.{sym, ◌∙◌}
use Rattle.names.specs.Names.{symbology_span, layout_span, part_in, Spanned}

module _ (b rows : List ℕ) (index : ℕ) where
  pub symbology-span_single : {r₁ r₂ : Spanned} → r₁ ≡ symbology_span (length b) rows index → r₂ ≡ symbology_span (length b) rows index → r₁ ≡ r₂
  symbology-span_single p q = p ∙ sym q

  pub layout-span_single : {r₁ r₂ : Spanned} → r₁ ≡ layout_span (length b) rows index → r₂ ≡ layout_span (length b) rows index → r₁ ≡ r₂
  layout-span_single p q = p ∙ sym q

  pub symbology-name_single : {r₁ r₂ : List ℕ} → r₁ ≡ part_in b (symbology_span (length b) rows index) → r₂ ≡ part_in b (symbology_span (length b) rows index) → r₁ ≡ r₂
  symbology-name_single p q = p ∙ sym q

  pub layout-name_single : {r₁ r₂ : List ℕ} → r₁ ≡ part_in b (layout_span (length b) rows index) → r₂ ≡ part_in b (layout_span (length b) rows index) → r₁ ≡ r₂
  layout-name_single p q = p ∙ sym q
