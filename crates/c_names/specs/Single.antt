-- ONE ANSWER, and which numbers it can be.
-- Assumes nothing.
use Rattle.std.specs.Prelude.{ℕ, ◌/◌, ◌≡◌, refl, List, [], ◌∷◌, length, Err, Ok}
use Rattle.std.proofs.Common.{sym, ap, subst, ◌∙◌}
use Rattle.refusal.specs.declared.Refusal.{Refusal}
use Rattle.codec.specs.Codec.{refusal}
use Rattle.codec.specs.Refusals.{In}
use Rattle.table.specs.Columns.{cell, row_cell}
use Rattle.names.specs.Names.{symbol_text, item_text, symbology_span, layout_span, span_number, spanned, Spanned}
use Rattle.names.specs.RefusalLaws.{span-refuses}
use Rattle.c_names.specs.Numbers.{span_out}

-- what either function promises of a span: the number, and `out`
abbrev pub SpanC : Spanned → ℕ → List ℕ → Type 0
SpanC x r o = (r ≡ span_number x) × (o ≡ span_out x)

one_span : (x : Spanned) {r q : ℕ} {o1 o2 : List ℕ} → SpanC x r o1 → SpanC x q o2 → (r ≡ q) × (o1 ≡ o2)
one_span x f g = (f.0 ∙ sym g.0, f.1 ∙ sym g.1)

-- 0, or 90 where that is all that refuses it
span-number : (x : Spanned) {r : ℕ} → r ≡ span_number x → ((k : Refusal) → x ≡ Err k → k ≡ refusal 90 0) → In (0 ∷ 90 ∷ []) r
span-number (Ok s) e h = subst (In (0 ∷ 90 ∷ [])) (sym e) refl
span-number (Err k) e h = subst (In (0 ∷ 90 ∷ [])) (sym (e ∙ ap (λ (m : Refusal). m.number) (h k refl))) refl

module _ (n : ℕ) (rows : List ℕ) (index : ℕ) {r q : ℕ} {o1 o2 : List ℕ} where
  -- two outcomes of dbn_symbology_name are equal
  pub one-symbology-name : SpanC (symbology_span n rows index) r o1 → SpanC (symbology_span n rows index) q o2 → (r ≡ q) × (o1 ≡ o2)
  one-symbology-name f g = one_span (symbology_span n rows index) f g

  -- and of dbn_layout_name
  pub one-layout-name : SpanC (layout_span n rows index) r o1 → SpanC (layout_span n rows index) q o2 → (r ≡ q) × (o1 ≡ o2)
  one-layout-name f g = one_span (layout_span n rows index) f g

module _ (n : ℕ) (rows : List ℕ) (index : ℕ) {r : ℕ} {o : List ℕ} where
  -- either gives 0 or 90
  pub symbology-name-number : SpanC (symbology_span n rows index) r o → In (0 ∷ 90 ∷ []) r
  symbology-name-number f = span-number (symbology_span n rows index) f.0 (λ k e. span-refuses symbol_text n (length rows / 6) (cell 6 rows index) index e)

  pub layout-name-number : SpanC (layout_span n rows index) r o → In (0 ∷ 90 ∷ []) r
  layout-name-number f = span-number (layout_span n rows index) f.0 (λ k e. span-refuses item_text n (length rows / 9) (row_cell 9 rows index) index e)
