-- Two answers that meet the same public promise are equal. Assumes nothing.
use Rattle.std.specs.Prelude.{ℕ, ◌≡◌, Bool, List}
use Rattle.std.proofs.Common.{sym, ◌∙◌}
use Rattle.marks.specs.Marks.{marked, with_mark, wiped}

module _ (ws : List ℕ) (k : ℕ) where
  pub is-marked : (r r' : Bool) → r ≡ marked ws k → r' ≡ marked ws k → r ≡ r'
  is-marked r r' e f = e ∙ sym f

  pub mark : (t t' : List ℕ) → t ≡ with_mark ws k → t' ≡ with_mark ws k → t ≡ t'
  mark t t' e f = e ∙ sym f

  pub wipe : (t t' : List ℕ) → t ≡ wiped ws k → t' ≡ wiped ws k → t ≡ t'
  wipe t t' e f = e ∙ sym f
