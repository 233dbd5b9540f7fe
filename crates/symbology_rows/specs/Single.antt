-- Two answers that meet the same public promise are equal, and so are the tables they leave. Assumes nothing.
use Rattle.std.specs.Prelude.{Result, ℕ, ◌≡◌, Bool, List}
use Rattle.std.proofs.Common.{sym, ◌∙◌}
use Rattle.codec.specs.Codec.{Res}
use Rattle.symbology_format.specs.Symbology.{Symbology}
use Rattle.symbology_rows.specs.Answers.{RowsPromise}
use Rattle.refusal.specs.declared.Refusal.{Refusal}
use Rattle.symbology_rows.specs.declared.Rows.{Rows}

pub read-rows : {write : Bool} {least : ℕ} {z : Res Symbology} {t t₁ t₂ : List ℕ} {r₁ r₂ : Result Rows Refusal} → RowsPromise write least z t t₁ r₁ → RowsPromise write least z t t₂ r₂ → (t₁ ≡ t₂) × (r₁ ≡ r₂)
read-rows a b = (a.leaves ∙ sym b.leaves, a.is ∙ sym b.is)
