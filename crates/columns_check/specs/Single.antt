-- The promise of `check_columns` leaves no freedom. Assumes nothing.
use Rattle.std.specs.Prelude.{◌≡◌, List, ℕ}
use Rattle.std.proofs.Common.{sym, ◌∙◌}
use Rattle.columns_check.specs.Check.{Columns, columns_of}

pub single : (width : ℕ) (t : List ℕ) (n : ℕ) (text : List ℕ) (r r' : Columns) → r ≡ columns_of width t n text → r' ≡ columns_of width t n text → r ≡ r'
single width t n text r r' a b = a ∙ sym b
