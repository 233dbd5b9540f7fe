-- The promise of `put_header` leaves no freedom. Assumes nothing.
use Rattle.std.specs.Prelude.{ℕ, ◌≡◌, List}
use Rattle.put.specs.Output.{Stored}
use Rattle.put.specs.Single.{one_stored}
use Rattle.header_bytes.specs.Header.{header_bytes}

pub one-header_stored : (version : ℕ) (fs dataset : List ℕ) (at : ℕ) (o o₁ o₂ : List ℕ) (r₁ r₂ : ℕ)
    → Stored at (header_bytes version fs dataset) o o₁ r₁ → Stored at (header_bytes version fs dataset) o o₂ r₂ → (r₁ ≡ r₂) × (o₁ ≡ o₂)
one-header_stored version fs dataset at o o₁ o₂ r₁ r₂ a b = one_stored at (header_bytes version fs dataset) o o₁ o₂ r₁ r₂ a b
