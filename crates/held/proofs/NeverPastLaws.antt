-- What is never taken: a byte past the head, or past the whole that it announces. Assumes nothing.
use Rattle.refusal.specs.declared.Refusal.{Refusal}
use Prim.Native.Nat.{ℕ, suc, ◌+◌, ◌-◌, ◌≤◌}
use Rattle.std.proofs.Common.{arith, sym, ◌∙◌}
use Rattle.std.specs.Prelude.{◌⊎◌, ◌≡◌, take, set, Result, Ok, Err}
use Rattle.std.proofs.Math.Logic.{inl, inr, ⊎_elim}
use Rattle.std.proofs.Math.Path.{refl, ap, subst}
use mathlib.Core.List.{List, [], ◌∷◌}
use Rattle.std.proofs.lemmas.List.{take-set-le}
use Rattle.held.specs.Held.{Head, held_of, need_of, taken_of, held_after, store_after}
use Rattle.held.proofs.StageLaws.{HeadLaw, needing}
use Rattle.held.proofs.NeededLaws.{needs_room}
use Rattle.held.proofs.BytewiseLaws.{eat, eats, after-eats}
use Rattle.held.specs.declared.Holding.{Holding}
use Rattle.held.specs.declared.Holding.TheVariants.{Needs, Whole}

-- so many held bytes do not reach past the head, or past the whole that it announces
abbrev pub Inside : Head → ℕ → List ℕ → Type 0
Inside H k st = (k ≤ H.size) ⊎ ((w : ℕ) × (b : ℕ) × (H.says (take H.size st) ≡ Ok (Whole w b)) × (k ≤ w))

module _ (H : Head) (L : HeadLaw H) where
  inside-eat : (k : ℕ) (st : List ℕ) (b n : ℕ) → held_of H k st ≡ Ok (Needs n) → Inside H (k + 1) (set st k b)
  inside-eat k st b n e =
      ⊎_elim (λ f. inl (omega (arith, f.few)))
      (λ f. inr (f.len, f.kind, ap H.says (take-set-le H.size st k b f.many) ∙ f.says, omega (arith, f.sum, f.some)))
      (needing H L k st n e)

  eat-of : (k : ℕ) (st : List ℕ) (b : ℕ) (r : Result Holding Refusal) → held_of H k st ≡ r
      → (eat H L (k, st) b ≡ (k, st)) ⊎ ((eat H L (k, st) b ≡ (k + 1, set st k b)) × Inside H (k + 1) (set st k b))
  unfolding eat
  eat-of k st b (Ok (Needs n)) e =
      let s : need_of (held_of H k st) ≡ suc (n - 1) = ap need_of e ∙ omega (arith, needs_room H L k st n e) in
      inr (rw s, inside-eat k st b n e)
  eat-of k st b (Err n) e = inl (rw e)
  eat-of k st b (Ok (Whole w n)) e = inl (rw e)

  eats-inside : (k : ℕ) (st p : List ℕ) → (eats H L (k, st) p ≡ (k, st)) ⊎ Inside H (eats H L (k, st) p).0 (eats H L (k, st) p).1
  unfolding eats
  eats-inside k st [] = inl refl
  eats-inside k st (b ∷ p) =
      ⊎_elim
      (λ e. subst (λ x. (eats H L x p ≡ (k, st)) ⊎ Inside H (eats H L x p).0 (eats H L x p).1) (sym e) (eats-inside k st p))
      (λ e.
      subst (λ x. (eats H L x p ≡ (k, st)) ⊎ Inside H (eats H L x p).0 (eats H L x p).1) (sym e.0)
      (⊎_elim (λ s. inr (subst (λ x. Inside H x.0 x.1) (sym s) e.1)) (λ s. inr s) (eats-inside (k + 1) (set st k b) p)))
      (eat-of k st b (held_of H k st) refl)

  -- NEVER PAST: nothing is taken, or what is then held does not reach past the head or the whole
  pub never-past : (k : ℕ) (st p : List ℕ) → (taken_of H k st p ≡ 0) ⊎ Inside H (held_after H k st p) (store_after H k st p)
  never-past k st p =
      ⊎_elim (λ e. inl (omega (arith, ap (λ x. x.0) (sym (after-eats H L k st p) ∙ e))))
      (λ i. inr (subst (λ x. Inside H x.0 x.1) (after-eats H L k st p) i))
      (eats-inside k st p)
