-- Numbers of the table where 0 stands for none, as the definitions count them, and as the code tells them; and what `?` hands on.
-- Assumes nothing.
use Rattle.std.specs.Prelude.{ℕ, ◌≡◌, Option, Some, None, Result, Ok, Err, IsErr, IsErrAnd, cond, eqb}
use Rattle.refusal.specs.declared.Refusal.{Refusal}
use Rattle.codec.specs.Codec.{refusal}
use Rattle.std.proofs.Common.{refl, sym, ap, ◌∙◌, arith}
use Rattle.std.proofs.lemmas.Result.{err_from_is_err_and}
use borrow.Author.Tests.{eq-eqb, ne_eqb}
use Rattle.codec.specs.CaseLaws.{by_eqb}

-- the number that refuses; none where it is 0
unfoldable pub fault : ℕ → Option ℕ
fault n = cond (eqb n 0) None (Some n)

pub fault_zero : fault 0 ≡ None
unfolding fault
fault_zero = refl

pub fault_not : (n : ℕ) → (n ≡ 0 → ⊥) → fault n ≡ Some n
unfolding fault
fault_not n z = rw (ne_eqb n 0 z) refl

-- a number that is told is the one that refuses, and is not 0
pub fault_some : {n k : ℕ} → fault n ≡ Some k → (k ≡ n) × (k ≡ 0 → ⊥)
unfolding fault
fault_some {n} {k} e = by_eqb n 0 (λ _ z. absurd (no (rw z at e))) (λ _ z. go z (sym (fault_not n z) ∙ e))
  where
    no : fault 0 ≡ Some k → ⊥
    no e = let z : ◌≡◌ {A = ℕ} 0 1 = cc in omega arith

    go : (n ≡ 0 → ⊥) → Some n ≡ Some k → (k ≡ n) × (k ≡ 0 → ⊥)
    go z e = let q : n ≡ k = cc in (sym q, λ h. z (q ∙ h))

-- where no number is told, it is 0
pub fault_none : {n : ℕ} {x : Option ℕ} → x ≡ fault n → ((k : ℕ) → x ≡ Some k → ⊥) → n ≡ 0
fault_none {n} e untold = by_eqb n 0 (λ _ z. z) (λ _ z. absurd (untold n (e ∙ fault_not n z)))

-- what a told number, and none, say of the number
pub none_told : (n : ℕ) → None ≡ fault n → n ≡ 0
none_told n e = fault_none e (λ k q. let z : ◌≡◌ {A = ℕ} 0 1 = cc in omega arith)

pub some_told : (n : ℕ) {k : ℕ} → Some k ≡ fault n → (n ≡ 0 → ⊥) × (k ≡ n)
some_told n e = let (same, some) = fault_some (sym e) in ((λ z. some (same ∙ z)), same)

-- the refusal by a number, which is about no byte; none where it is 0
unfoldable pub passed : ℕ → Result (Unit {0}) Refusal
passed n = cond (eqb n 0) (Ok tt) (Err (refusal n 0))

module _ (n : ℕ) where
  pub all_passed : n ≡ 0 → Ok tt ≡ passed n
  unfolding passed
  all_passed z = rw (eq-eqb n 0 z)

  pub refuses_by : (n ≡ 0 → ⊥) → Err (refusal n 0) ≡ passed n
  unfolding passed
  refuses_by z = rw (ne_eqb n 0 z)

  -- what each answer says of the number
  pub is_passed : {u : Unit {0}} → Ok u ≡ passed n → n ≡ 0
  is_passed {u} e = by_eqb n 0 (λ _ z. z) (λ _ z. let q = e ∙ sym (refuses_by z) in absurd (let o : ◌≡◌ {A = ℕ} 0 1 = cc in omega arith))

  pub passed_refuses : {e : Refusal} → Err e ≡ passed n → (n ≡ 0 → ⊥) × (e ≡ refusal n 0)
  passed_refuses {e} p =
      by_eqb n 0
      (λ _ z. let q = p ∙ sym (all_passed z) in absurd (let o : ◌≡◌ {A = ℕ} 0 1 = cc in omega arith))
      (λ _ z. let q = p ∙ sym (refuses_by z) in let o : e ≡ refusal n 0 = cc in (z, o))

-- where a `?` leaves, it hands on the refusal that it met
pub handed_on : {T E : Type 0} {r : Result T E} {e : E} → IsErr r × IsErrAnd r (λ y. y ≡ e) → r ≡ Err e
handed_on {r = r} h = let (y, is, same) = err_from_is_err_and r h.1 in is ∙ ap Err same
