-- What the C function of a tidy layout gives for each case of the answer: the number, and the place in `out`.
-- Assumes nothing.
use Rattle.std.specs.Prelude.{ℕ, ◌≡◌, List, Ok, Err}
use Rattle.c_texts.specs.Numbers.{place_out}
use Rattle.tidy.specs.Tidy.{Tidy, tidy_of, tidy_number}

-- yes leaves `out` as it was; of a refusal the place, at 13, where it has one
abbrev pub tidy_out : Tidy → List ℕ → List ℕ
tidy_out (Ok x) o = o
tidy_out (Err e) o = place_out e o

-- THE PROMISE of dbn_tidy: the layout s, given with the width w and the sheet
pub record TidyC (s : List ℕ) (w : ℕ) (sheet o : List ℕ) (r : ℕ) (o' : List ℕ) : Type 0 where
  pub number : r ≡ tidy_number (tidy_of sheet w s)
  pub out : o' ≡ tidy_out (tidy_of sheet w s) o
