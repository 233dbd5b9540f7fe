-- ONE ANSWER: two outcomes that meet the promise are equal.
-- Assumes nothing.
use Rattle.std.specs.Prelude.{ℕ, ◌≡◌, List}
use Rattle.std.proofs.Common.{sym, ◌∙◌}
use Rattle.put.specs.Output.{Filled}
use Rattle.report.specs.Report.{report}

-- of `write_report`
pub one-report : (c o o₁ o₂ : List ℕ) (r₁ r₂ : ℕ) → Filled (report c) o o₁ r₁ → Filled (report c) o o₂ r₂ → (r₁ ≡ r₂) × (o₁ ≡ o₂)
one-report c o o₁ o₂ r₁ r₂ e f = (e.count ∙ sym f.count, e.bytes ∙ sym f.bytes)
