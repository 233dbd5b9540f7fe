-- ONE ANSWER: two outcomes that meet a promise are equal.
-- Assumes nothing.
use Rattle.std.specs.Prelude.{ℕ, ◌≡◌, List}
use Rattle.std.proofs.Common.{sym, ◌∙◌}
use Rattle.count.specs.Count.{counted, counted_end}
use Rattle.count.specs.declared.Outcome.{Outcome}

-- of `count`
pub one-count : (x : Outcome) (c c₁ c₂ : List ℕ) → c₁ ≡ counted x c → c₂ ≡ counted x c → c₁ ≡ c₂
one-count x c c₁ c₂ f g = f ∙ sym g

-- of `count_end`
pub one_end : (k : ℕ) (c c₁ c₂ : List ℕ) → c₁ ≡ counted_end k c → c₂ ≡ counted_end k c → c₁ ≡ c₂
one_end k c c₁ c₂ f g = f ∙ sym g
