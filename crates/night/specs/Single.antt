-- ONE ANSWER: two outcomes that meet a promise are equal.
-- Assumes nothing.
use Rattle.std.specs.Prelude.{◌≡◌, List, ℕ}
use Rattle.std.proofs.Common.{sym, ap₂, ◌∙◌}
use Rattle.night.specs.Night.{Night, Passed}
use Rattle.night.specs.declared.State.{State}

-- of `read_piece`: the state, and each buffer that is lent
pub record Same (x y : State) (st s l c st2 s2 l2 c2 : List ℕ) : Type 0 where
  pub result : x ≡ y
  pub store : st ≡ st2
  pub symbology : s ≡ s2
  pub layout : l ≡ l2
  pub counts : c ≡ c2

pub one_piece : (t : List ℕ) (n : Night) (p : List ℕ) (x y : State) (st s l c st2 s2 l2 c2 : List ℕ)
    → Passed t n p x st s l c → Passed t n p y st2 s2 l2 c2 → Same x y st s l c st2 s2 l2 c2
one_piece t n p x y st s l c st2 s2 l2 c2 f g = record {
  result = ap₂ (λ i j. record { held = i; ended = j }) (f.held ∙ sym g.held) (f.ended ∙ sym g.ended);
  store = f.store ∙ sym g.store;
  symbology = f.symbology ∙ sym g.symbology;
  layout = f.layout ∙ sym g.layout;
  counts = f.counts ∙ sym g.counts;
}
