-- The promise of `put_row` leaves no freedom. Assumes nothing.
use Rattle.std.specs.Prelude.{ℕ, ◌≡◌, List}
use Rattle.put.specs.Output.{Stored}
use Rattle.put.specs.Single.{one_stored}
use Rattle.row_bytes.specs.Row.{row_bytes}

pub one-row_stored : (width : ℕ) (t text : List ℕ) (r at : ℕ) (o o₁ o₂ : List ℕ) (a₁ a₂ : ℕ)
    → Stored at (row_bytes width t text r) o o₁ a₁ → Stored at (row_bytes width t text r) o o₂ a₂ → (a₁ ≡ a₂) × (o₁ ≡ o₂)
one-row_stored width t text r at o o₁ o₂ a₁ a₂ e f = one_stored at (row_bytes width t text r) o o₁ o₂ a₁ a₂ e f
