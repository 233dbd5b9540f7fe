-- The promise leaves no choice: two answers that meet it, to the same input, are equal. Assumes nothing.
use Rattle.std.specs.Prelude.{ℕ, ◌≡◌, List}
use Rattle.std.proofs.Common.{sym, ◌∙◌}
use Rattle.tidy.specs.Tidy.{Tidy, tidy_of}

pub tidy_single : (sheet : List ℕ) (width : ℕ) (s : List ℕ) (r r' : Tidy) → r ≡ tidy_of sheet width s → r' ≡ tidy_of sheet width s → r ≡ r'
tidy_single sheet width s r r' e f = e ∙ sym f
