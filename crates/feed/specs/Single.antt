-- ONE ANSWER: two outcomes that meet a promise are equal.
-- Assumes nothing.
use Rattle.block_format.specs.declared.ReadError.{ReadError}
use Rattle.std.specs.Prelude.{ℕ, ◌≡◌, List, Result}
use Rattle.std.proofs.Common.{sym, ap, ap₂, ◌∙◌}
use Rattle.feed.specs.Feeding.{Feeding}
use Rattle.feed.specs.declared.Answer.{Answer}
use Rattle.feed.specs.declared.Fed.{Fed}

-- of `feed`: what it returns, the store and both tables
pub record Same (x y : Fed) (st1 s1 l1 st2 s2 l2 : List ℕ) : Type 0 where
  pub result : x ≡ y
  pub store : st1 ≡ st2
  pub symbology : s1 ≡ s2
  pub layout : l1 ≡ l2

abbrev mk : ℕ → ℕ → Result Answer ReadError → Fed
mk n h r = record { taken = n; state = record { held = h }; answer = r }

pub one_feed : (k : ℕ) (st p t s l : List ℕ) (x y : Fed) (st1 s1 l1 st2 s2 l2 : List ℕ)
    → Feeding k st p t s l x st1 s1 l1 → Feeding k st p t s l y st2 s2 l2 → Same x y st1 s1 l1 st2 s2 l2
one_feed k st p t s l x y st1 s1 l1 st2 s2 l2 f g =
    record {
      result = ap₂ (λ n h. mk n h x.answer) (f.taken ∙ sym g.taken) (f.held ∙ sym g.held) ∙ ap (mk y.taken y.state.held) (f.verdict.answer ∙ sym g.verdict.answer);
      store = f.store ∙ sym g.store;
      symbology = f.verdict.symbology ∙ sym g.verdict.symbology;
      layout = f.verdict.layout ∙ sym g.verdict.layout;
    }
