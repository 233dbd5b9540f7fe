-- The rules of an accepted layout, and its verdict. Assumes nothing.
use Rattle.std.specs.Prelude.{ℕ, List, eqb, Ok, Err}
use Rattle.std.proofs.Common.{arith, ◌∙◌}
use Rattle.std.proofs.Math.Path.{◌≡◌, sym}
use borrow.Author.Tests.{ne_eqb}
use Rattle.refusal.specs.declared.Refusal.{Refusal}
use Rattle.codec.specs.Codec.{Res, ok, refuse, refusal, ◌>>=◌, need}
use Rattle.layout.specs.Layout.{Layout, from_layout}
use Rattle.layout.specs.LayoutOf.{layout_of}
use Rattle.layout.specs.Answers.{accepted as having, verdict}
use Rattle.layout.specs.AnswerLaws.{verdict-accepted, verdict-refused, verdict-ok}
use Rattle.item_rules.specs.Standing.{sections_fault}
use Rattle.item_rules.specs.SectionLaws.{sections-are}
use Rattle.rules.specs.Rules.{rules_of, ruled_of}
use Rattle.rules.specs.LayoutRules.{Accepted, rules_in}

-- its records and structs give the rules
pub layout_is : (sheet : List ℕ) (width : ℕ) (s t : List ℕ) → Accepted s → {r : ℕ} → r ≡ sections_fault sheet width s t → r ≡ rules_in sheet width (layout_of s)
unfolding rules_of
layout_is sheet width s t a e = rw a.is (e ∙ sections-are s t a.tree a.next a.is sheet width)

-- ---- the verdict

module _ (s : List ℕ) where
  pub accepted : {v n : ℕ} → verdict (layout_of s) ≡ Ok (having v n) → Accepted s
  accepted q = let (t, j, e, _, _) = verdict-ok (layout_of s) (sym q) in record { tree = t; next = j; is = e }

module _ (sheet : List ℕ) (width : ℕ) (s : List ℕ) where
  after : Res Layout → Res Layout
  after r = r >>= λ t j. need (eqb 0 (rules_of sheet width (from_layout t).0)) (rules_of sheet width (from_layout t).0) 0 >>= λ _ _. ok t j

  fine : (r : Res Layout) {v n k : ℕ} → verdict r ≡ Ok (having v n) → k ≡ rules_in sheet width r → k ≡ 0 → Ok (having v n) ≡ verdict (after r)
  unfolding after
  fine (ok t j) q e z = sym q ∙ rw (sym (e) ∙ z)
  fine (refuse k) q e z = absurd (let w = sym (verdict-refused k) ∙ q in let y : ◌≡◌ {A = ℕ} 0 1 = cc in omega arith)

  broken : (r : Res Layout) {v n k : ℕ} → verdict r ≡ Ok (having v n) → k ≡ rules_in sheet width r → (k ≡ 0 → ⊥) → Err (refusal k 0) ≡ verdict (after r)
  unfolding after
  broken (ok t j) {k = k} q e z = rw (← e, ne_eqb 0 k (λ x. z (sym x))) (sym (verdict-refused (refusal k 0)))
  broken (refuse m) q e z = absurd (let w = sym (verdict-refused m) ∙ q in let y : ◌≡◌ {A = ℕ} 0 1 = cc in omega arith)

  unread : (r : Res Layout) {k : Refusal} → verdict r ≡ Err k → Err k ≡ verdict (after r)
  unfolding after
  unread (ok t j) q = absurd (let w = sym (verdict-accepted t j) ∙ q in let y : ◌≡◌ {A = ℕ} 0 1 = cc in omega arith)
  unread (refuse m) q = sym q

  pub ruled-fine : {v n k : ℕ} → verdict (layout_of s) ≡ Ok (having v n) → k ≡ rules_in sheet width (layout_of s) → k ≡ 0 → Ok (having v n) ≡ verdict (ruled_of sheet width s)
  unfolding ruled_of after
  ruled-fine q e z = fine (layout_of s) q e z

  pub ruled_broken : {v n k : ℕ} → verdict (layout_of s) ≡ Ok (having v n) → k ≡ rules_in sheet width (layout_of s) → (k ≡ 0 → ⊥) → Err (refusal k 0) ≡ verdict (ruled_of sheet width s)
  unfolding ruled_of after
  ruled_broken q e z = broken (layout_of s) q e z

  pub ruled_unread : {k : Refusal} → verdict (layout_of s) ≡ Err k → Err k ≡ verdict (ruled_of sheet width s)
  unfolding ruled_of after
  ruled_unread q = unread (layout_of s) q
