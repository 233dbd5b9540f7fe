-- ONE ANSWER: two outcomes that meet a promise are equal.
-- Assumes nothing.
use Rattle.std.specs.Prelude.{ℕ, ◌≡◌, List, Result}
use Rattle.std.proofs.Common.{sym, ◌∙◌}
use Rattle.refusal.specs.declared.Refusal.{Refusal}
use Rattle.house.specs.declared.Held.{Held}
use Rattle.house.specs.Start.{Storing, Loading}

-- of `store_start`: what it returns, and the output
pub one_store : (s t o : List ℕ) (x y : Result ℕ Refusal) (o1 o2 : List ℕ) → Storing s t o x o1 → Storing s t o y o2 → (x ≡ y) × (o1 ≡ o2)
one_store s t o x y o1 o2 f g = (f.answer ∙ sym g.answer, f.output ∙ sym g.output)

-- of `load_start`: what it returns, the store and both tables
pub one_load : (f st t s l : List ℕ) (x y : Result Held Refusal) (st1 s1 l1 st2 s2 l2 : List ℕ) → Loading f st t s l x st1 s1 l1 → Loading f st t s l y st2 s2 l2 → (x ≡ y) × ((st1 ≡ st2) × ((s1 ≡ s2) × (l1 ≡ l2)))
one_load f st t s l x y st1 s1 l1 st2 s2 l2 a b = (a.answer ∙ sym b.answer, (a.store ∙ sym b.store, (a.symbology ∙ sym b.symbology, a.layout ∙ sym b.layout)))
