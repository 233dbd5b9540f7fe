-- Two answers that meet the same public promise are equal, and so are the tables they leave. Assumes nothing.
use Rattle.std.specs.Prelude.{Result, ℕ, ◌≡◌, Bool, List}
use Rattle.std.proofs.Common.{sym, ◌∙◌}
use Rattle.codec.specs.Codec.{Res}
use Rattle.symbology_format.specs.Symbology.{Symbology}
use Rattle.symbology.specs.Answers.{SectionPromise}
use Rattle.refusal.specs.declared.Refusal.{Refusal}
use Rattle.symbology.specs.declared.Section.{Section}

pub read-section-rows : {write : Bool} {z : Res Symbology} {t t₁ t₂ : List ℕ} {r₁ r₂ : Result Section Refusal} → SectionPromise write z t t₁ r₁ → SectionPromise write z t t₂ r₂ → (t₁ ≡ t₂) × (r₁ ≡ r₂)
read-section-rows a b = (a.leaves ∙ sym b.leaves, a.is ∙ sym b.is)
