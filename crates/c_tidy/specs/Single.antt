-- ONE ANSWER: two outcomes that meet the promise of the C function are equal. Assumes nothing.
use Rattle.std.specs.Prelude.{ℕ, ◌≡◌, List}
use Rattle.c_texts.specs.Single.{one}
use Rattle.c_tidy.specs.Numbers.{TidyC}

-- number, `out`
pub one_tidy : (s : List ℕ) (w : ℕ) (sheet o : List ℕ) (r q : ℕ) (o1 o2 : List ℕ) → TidyC s w sheet o r o1 → TidyC s w sheet o q o2 → (r ≡ q) × (o1 ≡ o2)
one_tidy s w sheet o r q o1 o2 f g = (one f.number g.number, one f.out g.out)
