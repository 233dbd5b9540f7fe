-- Why held bytes are refused. Assumes nothing.
use Rattle.std.specs.Prelude.{ℕ, ◌-◌, Bool, List, length, take, ltb, Result, Ok, Err}
use Rattle.std.proofs.Common.{arith, sym, ◌∙◌}
use Rattle.std.proofs.Math.Bool.{true, false, cond}
use Rattle.std.proofs.Math.Path.{◌≡◌, refl}
use Rattle.refusal.specs.declared.Refusal.{Refusal}
use Rattle.codec.specs.Codec.{refusal}
use Rattle.held.specs.Held.{Head, bounded, within, held_of}
use Rattle.held.specs.declared.Holding.{Holding}
use Rattle.held.specs.declared.Holding.TheVariants.{Needs, Whole}

-- WHY: the held count, the store, or the head
pub data Why (H : Head) (k : ℕ) (st : List ℕ) (e : Refusal) : Type 0 where
  held : e ≡ refusal 1 0 → Why H k st e
  store : e ≡ refusal H.short 0 → Why H k st e
  head : H.says (take k st) ≡ Err e → Why H k st e

module _ (H : Head) (k : ℕ) (st : List ℕ) {e : Refusal} where
  within-why : (x : Result Holding Refusal) → H.says (take k st) ≡ x → within H.short (length st) k x ≡ Err e → Why H k st e
  unfolding bounded
  within-why (Ok (Needs m)) h q = let z : ◌≡◌ {A = ℕ} 0 1 = cc in absurd (omega arith)
  within-why (Err j) h q = head (h ∙ q)
  within-why (Ok (Whole w b)) h q = go (ltb (length st) w) (ltb w k) (ltb k w) q
    where
      go : (x y z : Bool) → cond x (Err (refusal H.short 0)) (cond y (Err (refusal 1 0)) (cond z (Ok (Needs (w - k))) (Ok (Whole w b)))) ≡ Err e → Why H k st e
      go true y z q = let i : refusal H.short 0 ≡ e = cc in store (sym i)
      go false true z q = let i : refusal 1 0 ≡ e = cc in held (sym i)
      go false false true q = let i : ◌≡◌ {A = ℕ} 0 1 = cc in absurd (omega arith)
      go false false false q = let i : ◌≡◌ {A = ℕ} 0 1 = cc in absurd (omega arith)

  pub why : held_of H k st ≡ Err e → Why H k st e
  unfolding held_of
  why q = go (ltb (length st) k) (ltb (length st) H.size) q
    where
      go : (x y : Bool) → cond x (Err (refusal 1 0)) (cond y (Err (refusal H.short 0)) (within H.short (length st) k (H.says (take k st)))) ≡ Err e → Why H k st e
      go true y q = let i : refusal 1 0 ≡ e = cc in held (sym i)
      go false true q = let i : refusal H.short 0 ≡ e = cc in store (sym i)
      go false false q = within-why (H.says (take k st)) refl q
