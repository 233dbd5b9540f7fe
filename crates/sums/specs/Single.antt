-- ONE ANSWER: two outcomes that meet a promise are equal.
-- Assumes nothing.
use Rattle.std.specs.Prelude.{ℕ, ◌≡◌, List}
use Rattle.std.proofs.Common.{sym, ◌∙◌}
use Rattle.sums.specs.Sums.{sums_of}
use Rattle.sums.specs.declared.Sums.{Sums}

-- of `sums_of`
pub one_sums : (s : List ℕ) (x y : Sums) → x ≡ sums_of s → y ≡ sums_of s → x ≡ y
one_sums s x y f g = f ∙ sym g
