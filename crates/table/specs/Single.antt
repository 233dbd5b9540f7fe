-- Two answers that meet the same public promise are equal. Assumes nothing.
use Rattle.std.specs.Prelude.{ℕ, ◌≡◌, List}
use Rattle.std.proofs.Common.{sym, ◌∙◌}
use Rattle.table.specs.Table.{Putter, Put}
use Rattle.table.specs.Columns.{cell_of}

-- of `put_row` and of `put_six`
pub one-put : (put : Putter) (t : List ℕ) (n : ℕ) (row t₁ t₂ : List ℕ) → Put put t n row t₁ → Put put t n row t₂ → t₁ ≡ t₂
one-put put t n row t₁ t₂ e f = e.is ∙ sym f.is

pub one_number : (t : List ℕ) (r c : ℕ) {a b : ℕ} → a ≡ cell_of t r c → b ≡ cell_of t r c → a ≡ b
one_number t r c e f = e ∙ sym f
