-- A refusal of what is read at a place is its format's, and of bytes or a number the number that the caller gave.
-- Assumes nothing.
use Rattle.std.specs.Prelude.{ℕ, ◌≡◌, List, Err}
use Rattle.std.proofs.Common.{arith, subst}
use Rattle.std.proofs.Math.Path.{refl}
use Rattle.refusal.specs.declared.Refusal.{Refusal}
use Rattle.codec.specs.Codec.{Res, ok, refuse, raw, num}
use Rattle.codec.specs.Refusals.{Gives}
use Rattle.codec.proofs.RefusalLaws.{only-raw, only-num}
use Rattle.numbers.specs.Numbers.{got_of, take_at, num_at}

pub got_refuses : (P : ℕ → Type 0) {A : Type 0} (f : A → ℕ) (r : Res A) {k : Refusal} → Gives P r → got_of f r ≡ Err k → P k.number
got_refuses P f (ok x p) g e = absurd (let z : ◌≡◌ {A = ℕ} 0 1 = cc in omega arith)
got_refuses P f (refuse j) {k} g e = let q : j ≡ k = cc in subst (λ (h : Refusal). P h.number) q g

module _ (why n : ℕ) (s : List ℕ) (at : ℕ) {k : Refusal} where
  pub take-refuses : take_at why n s at ≡ Err k → k.number ≡ why
  unfolding take_at
  take-refuses e = got_refuses (λ j. j ≡ why) (λ _. n) ((raw why n).parse 0 s at) (only-raw (λ j. j ≡ why) why n refl 0 s at) e

  pub num-refuses : num_at why n s at ≡ Err k → k.number ≡ why
  unfolding num_at
  num-refuses e = got_refuses (λ j. j ≡ why) (λ v. v) ((num why n).parse 0 s at) (only-num (λ j. j ≡ why) why n refl 0 s at) e
