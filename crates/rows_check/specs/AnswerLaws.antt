-- What the answers of the check's parts tell. Assumes nothing.
use Rattle.std.specs.Prelude.{ℕ, zero, suc, ◌+◌, Bool, List, Ok, Err}
use Rattle.std.proofs.Math.Path.{◌≡◌, refl}
use Rattle.std.proofs.Common.{sym, ap, arith}
use Rattle.std.proofs.Math.Bool.{true, false, cond}
use Rattle.rows_check.specs.Tree.{row_count, kinds}
use Rattle.rows_check.specs.Check.{both, every, row_test, well_formed, size, fit_fault, fault}
use Rattle.rows_check.specs.Answers.{row_good, AllGood, Sized, made, unless, sized_of, sized_number}
use Rattle.rows_check.specs.CheckLaws.{both_left, both_right}
use Rattle.std.proofs.Math.Dec.{eqb}
use borrow.Author.Tests.{eqb-true, eqb-false}
use Rattle.refusal.specs.declared.Refusal.{Refusal}
use Rattle.codec.specs.Codec.{refusal}
use Rattle.codec.specs.CaseLaws.{by_bool}
use Rattle.rows_check.specs.declared.Size.{Size}

-- ---- rows that pass 90 to 93 in one walk

both_of : (x y : Bool) → x ≡ true → y ≡ true → both x y ≡ true
unfolding both
both_of x y e d = rw (e, d)

every-part : (f g : ℕ → Bool) → ((q : ℕ) → f q ≡ true → g q ≡ true) → (q n : ℕ) → every f q n ≡ true → every g q n ≡ true
unfolding every
every-part f g h q zero e = refl
every-part f g h q (suc n) e =
    both_of (g q) (every g (q + 1) n) (h q (both_left (f q) (every f (q + 1) n) e))
    (every-part f g h (q + 1) n (both_right (f q) (every f (q + 1) n) e))

module _ (rows text : List ℕ) (b : Bool) (e : b ≡ every (row_good rows text) 0 (row_count rows)) where
  part : (which : ℕ) → ((q : ℕ) → row_good rows text q ≡ true → row_test which rows text q ≡ true) → AllGood b which rows text
  part which h = record { passed = λ t. every-part (row_good rows text) (row_test which rows text) h 0 (row_count rows) (rw e at t) }

  pub good_90 : AllGood b 90 rows text
  unfolding row_good row_test
  good_90 = part 90 (λ q t. both_left _ _ t)

  pub good_91 : AllGood b 91 rows text
  unfolding row_good row_test
  good_91 = part 91 (λ q t. both_left _ _ (both_right _ _ t))

  pub good_92 : AllGood b 92 rows text
  unfolding row_good row_test
  good_92 = part 92 (λ q t. both_left _ _ (both_right _ _ (both_right _ _ t)))

  pub good_93 : AllGood b 93 rows text
  unfolding row_good row_test
  good_93 = part 93 (λ q t. both_right _ _ (both_right _ _ (both_right _ _ t)))

-- ---- the whole answer

pub record Fitted (whole : Bool) (rows text : List ℕ) (z : Size) : Type 0 where
  pub bytes : z.bytes ≡ cond whole (size rows text) 0
  pub records : z.records ≡ kinds rows 10
  pub structs : z.structs ≡ kinds rows 13
  pub labels : z.labels ≡ kinds rows 14

abbrev sized : ℕ → ℕ → ℕ → ℕ → Sized
sized b r s l = Ok (record { bytes = b; records = r; structs = s; labels = l })

pub made-is : {whole : Bool} {rows text : List ℕ} {z : Size} → Fitted whole rows text z → ◌≡◌ {A = Sized} (Ok z) (made whole rows text)
unfolding made
made-is {whole} {rows} {text} {z} v =
    let e : sized z.bytes z.records z.structs z.labels ≡ made whole rows text = rw (v.bytes, v.records, v.structs, v.labels) in
    e

fitted : {whole : Bool} {rows text : List ℕ} {z : Size} → ◌≡◌ {A = Sized} (Ok z) (made whole rows text) → Fitted whole rows text z
unfolding made
fitted {whole} {rows} {text} {z} e =
    let f : z ≡ record { bytes = cond whole (size rows text) 0; records = kinds rows 10; structs = kinds rows 13; labels = kinds rows 14 } = cc in
    record { bytes = ap (λ (y : Size). y.bytes) f; records = ap (λ (y : Size). y.records) f; structs = ap (λ (y : Size). y.structs) f; labels = ap (λ (y : Size). y.labels) f }

module _ (k : ℕ) (whole : Bool) (rows text : List ℕ) where
  -- what the rows make is told where no number refuses them
  pub made_told : (z : Size) → Ok z ≡ unless k (made whole rows text) → (k ≡ 0) × Fitted whole rows text z
  made_told z e = go (eqb 0 k) refl e
    where
      go : (a : Bool) → eqb 0 k ≡ a → Ok z ≡ cond a (made whole rows text) (Err (refusal k 0)) → (k ≡ 0) × Fitted whole rows text z
      go true q e = (sym (eqb-true 0 k q), fitted e)
      go false q e = let o : ◌≡◌ {A = ℕ} 0 1 = cc in absurd (omega arith)

  pub refused-told : (n : Refusal) → Err n ≡ unless k (made whole rows text) → (k ≡ 0 → ⊥) × (n ≡ refusal k 0)
  unfolding made
  refused-told n e = go (eqb 0 k) refl e
    where
      go : (a : Bool) → eqb 0 k ≡ a → Err n ≡ cond a (made whole rows text) (Err (refusal k 0)) → (k ≡ 0 → ⊥) × (n ≡ refusal k 0)
      go true z e = let o : ◌≡◌ {A = ℕ} 0 1 = cc in absurd (omega arith)
      go false z e =
          let f : n ≡ refusal k 0 = cc in
          ((λ m. eqb-false 0 k z (sym m)), f)

  -- the number of the answer is the one that refuses them
  pub made-number : sized_number (unless k (made whole rows text)) ≡ k
  unfolding made
  made-number = by_bool (eqb 0 k) (λ q. rw q (eqb-true 0 k q)) (λ q. rw q)

module _ (whole : Bool) (rows text : List ℕ) where
  pub sized-length : (z : Size) → Ok z ≡ sized_of whole rows text → (fault whole rows text ≡ 0) × Fitted whole rows text z
  unfolding sized_of
  sized-length z e = made_told (fault whole rows text) whole rows text z e

  pub sized-fault : (n : Refusal) → Err n ≡ sized_of whole rows text → (fault whole rows text ≡ 0 → ⊥) × (n ≡ refusal (fault whole rows text) 0)
  unfolding sized_of
  sized-fault n e = refused-told (fault whole rows text) whole rows text n e

  -- rows that pass are well formed
  pub fault-formed : fault whole rows text ≡ 0 → well_formed rows text ≡ true
  unfolding fault
  fault-formed e = go (well_formed rows text) e
    where
      go : (a : Bool) → cond a (cond whole (fit_fault rows text) 0) 90 ≡ 0 → a ≡ true
      go true e = refl
      go false e = absurd (omega arith)
