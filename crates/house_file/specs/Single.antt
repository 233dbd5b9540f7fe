-- ONE ANSWER: two outcomes that meet a promise are equal.
-- Assumes nothing.
use Rattle.std.specs.Prelude.{ℕ, ◌≡◌, List, Result}
use Rattle.std.proofs.Common.{sym, ◌∙◌}
use Rattle.house_file.specs.House.{Unpacking, Packing}
use Rattle.refusal.specs.declared.Refusal.{Refusal}

-- of `unpack`: what it returns, and the store
pub one_unpack : (s st : List ℕ) (x y : Result ℕ Refusal) (st1 st2 : List ℕ) → Unpacking s st x st1 → Unpacking s st y st2 → (x ≡ y) × (st1 ≡ st2)
one_unpack s st x y st1 st2 f g = (f.answer ∙ sym g.answer, f.store ∙ sym g.store)

-- of `pack`: what it returns, and the output
pub one_pack : (s o : List ℕ) (x y : Result ℕ Refusal) (o1 o2 : List ℕ) → Packing s o x o1 → Packing s o y o2 → (x ≡ y) × (o1 ≡ o2)
one_pack s o x y o1 o2 f g = (f.answer ∙ sym g.answer, f.output ∙ sym g.output)
