-- ONE ANSWER: two outcomes that meet a promise are equal.
-- Assumes nothing.
use Rattle.refusal.specs.declared.Refusal.{Refusal}
use Rattle.std.specs.Prelude.{ℕ, ◌≡◌, List, Result, Err}
use Rattle.std.proofs.Common.{sym, ap, ◌∙◌}
use Rattle.std.proofs.Math.Seq.{paste}
use Rattle.codec.specs.Codec.{refusal}
use Rattle.held.specs.Held.{bounded, put_of}
use Rattle.held.specs.declared.Holding.{Holding}

-- of `refused`
pub one-refused : (n : ℕ) (x y : Result Holding Refusal) → x ≡ Err (refusal n 0) → y ≡ Err (refusal n 0) → x ≡ y
one-refused n x y f g = f ∙ sym g

-- of `bounded`
pub one-bounded : (short n k w b : ℕ) (x y : Result Holding Refusal) → x ≡ bounded short n k w b → y ≡ bounded short n k w b → x ≡ y
one-bounded short n k w b x y f g = f ∙ sym g

-- of `pour`: the count, and the store
abbrev Put : ℕ → List ℕ → List ℕ → Result Holding Refusal → ℕ → List ℕ → Type 0
Put k st p x r st' = (r ≡ put_of k st p x) × (st' ≡ paste st k p r)

pub one_pour : (k : ℕ) (st p : List ℕ) (x : Result Holding Refusal) (r q : ℕ) (st1 st2 : List ℕ) → Put k st p x r st1 → Put k st p x q st2 → (r ≡ q) × (st1 ≡ st2)
one_pour k st p x r q st1 st2 f g = let e : r ≡ q = f.0 ∙ sym g.0 in (e, f.1 ∙ ap (paste st k p) e ∙ sym g.1)
