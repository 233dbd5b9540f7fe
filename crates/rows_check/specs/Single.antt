-- The promise of `layout_size` leaves no freedom. Assumes nothing.
use Rattle.std.specs.Prelude.{◌≡◌, Bool, List, ℕ}
use Rattle.std.proofs.Common.{sym, ◌∙◌}
use Rattle.rows_check.specs.Answers.{Sized, sized_of}

pub single : (whole : Bool) (rows text : List ℕ) (r r' : Sized) → r ≡ sized_of whole rows text → r' ≡ sized_of whole rows text → r ≡ r'
single whole rows text r r' a b = a ∙ sym b
