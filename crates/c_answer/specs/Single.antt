-- ONE ANSWER: two outcomes that meet a promise are equal.
-- Assumes nothing.
use Rattle.block_format.specs.declared.ReadError.{ReadError}
use Rattle.std.specs.Prelude.{ℕ, ◌≡◌, List, Result}
use Rattle.block_format.specs.declared.Fields.{Fields}
use Rattle.feed.specs.Feeding.{answer_number}
use Rattle.feed.specs.declared.Answer.{Answer}
use Rattle.c_texts.specs.Single.{one}
use Rattle.c_answer.specs.Numbers.{fields_out, answer_out}

-- of put_answer: number and `out`
pub one_answer : (a : Result Answer ReadError) (o : List ℕ) {r q : ℕ} {o1 o2 : List ℕ}
    → (r ≡ answer_number a) × (o1 ≡ answer_out a o) → (q ≡ answer_number a) × (o2 ≡ answer_out a o) → (r ≡ q) × (o1 ≡ o2)
one_answer a o f g = (one f.0 g.0, one f.1 g.1)

-- of fields_out
pub one-fields : (f : Fields) {r q : List ℕ} → r ≡ fields_out f → q ≡ fields_out f → r ≡ q
one-fields f g h = one g h
