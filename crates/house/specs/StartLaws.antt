-- Storing and loading step by step, as the code meets them. Assumes nothing.
use Rattle.block_format.specs.declared.Fields.{Fields}
use Rattle.block_format.specs.declared.ReadError.{ReadError}
use Rattle.std.specs.Prelude.{ℕ, ◌+◌, ◌-◌, ◌≤◌, ◌<◌, ◌≡◌, refl, length, Result, Ok, Err}
use Rattle.std.proofs.Common.{arith, add-zero, sym, ap₂, ◌∙◌, subst}
use Rattle.std.proofs.Math.Path.{ap}
use mathlib.Core.List.{List, []}
use Rattle.std.proofs.Math.Seq.{paste, paste-zero}
use borrow.Author.Tests.{eq-eqb, ne_eqb}
use Rattle.refusal.specs.declared.Refusal.{Refusal}
use Rattle.codec.specs.Codec.{refusal}
use Rattle.block_format.specs.Read.{block_answer}
use Rattle.codec.specs.CaseLaws.{by_le}
use Rattle.prelude.specs.Prelude.{prelude_of}
use Rattle.prelude.proofs.PreludeLaws.{prelude-few}
use Rattle.prelude.specs.declared.Stage.{Stage}
use Rattle.prelude.specs.declared.Stage.TheVariants as Stage'
use Rattle.held.specs.Held as held
use Rattle.held.proofs.StageLaws.{refused-whole, by-bound, bounded_beyond, bounded-rest, bounded-whole, taken-most}
use Rattle.held.specs.declared.Holding.TheVariants.{Needs, Whole}
use Rattle.feed.specs.Feeding.{start, announced, stage_of, block_in, block_says, answer_at, symbology_at, layout_at, taken_of, held_after, store_after, Judgement, Feeding}
use Rattle.feed.specs.AnswerLaws.{answer_needs, answer-kept, answer-whole}
use Rattle.feed.proofs.StageLaws.{start-law}
use Rattle.feed.specs.declared.Fed.{Fed}
use Rattle.house_file.specs.House.{blocks_of, store_in, Unpacking, Packing}
use Rattle.house.specs.Start.{roomy, start_stage, refusal_of, start_fault, stored_in, output_after, Storing, loaded_as, symbology_as, layout_as, Loading}

-- ---- the stream

pub stage-said : (s : List ℕ) {x : Result Stage Refusal} → prelude_of s ≡ x → start_stage s ≡ roomy (length s) (announced x)
unfolding start_stage
stage-said s e = ap (λ x. roomy (length s) (announced x)) e

-- eight bytes or more that announce a block: what is missing of it, 1 beyond it, or all
module _ (s : List ℕ) (v len : ℕ) (e : prelude_of s ≡ Ok (Stage.Whole v len)) where
  pub said-long : 8 ≤ length s
  said-long = by_le 8 (length s) (λ h. h) (λ h. let q = sym (prelude-few s h) ∙ e in let z : ◌≡◌ {A = ℕ} 0 1 = cc in absurd (omega arith))

  pub stage-rest : length s - 8 < len → start_stage s ≡ Ok (Needs (len - (length s - 8)))
  stage-rest h = let g = said-long in stage-said s e ∙ bounded-rest 2 (8 + len) (length s) (8 + len) v (omega arith) (omega arith) ∙ ap (λ (m : ℕ). Ok (Needs m)) (omega arith)

  pub stage_beyond : len < length s - 8 → start_stage s ≡ Err (refusal 1 0)
  stage_beyond h = let g = said-long in stage-said s e ∙ bounded_beyond 2 (8 + len) (length s) (8 + len) v (omega arith) (omega arith)

  pub stage-all : length s - 8 ≤ len → len ≤ length s - 8 → start_stage s ≡ Ok (Whole (length s) v)
  stage-all h k = let g = said-long in let n : 8 + len ≡ length s = omega arith in stage-said s e ∙ bounded-whole 2 (8 + len) (length s) (8 + len) v (omega arith) (omega arith) ∙ ap (λ m. Ok (Whole m v)) n

-- a whole is all of it, as the prelude says
pub whole-said : (s : List ℕ) (n v : ℕ) → start_stage s ≡ Ok (Whole n v) → (len : ℕ) × (prelude_of s ≡ Ok (Stage.Whole v len)) × (8 + len ≡ length s) × (n ≡ length s)
unfolding start_stage
whole-said s n v = go (prelude_of s) refl
  where
    go : (x : Result Stage Refusal) → prelude_of s ≡ x → roomy (length s) (announced x) ≡ Ok (Whole n v) → (len : ℕ) × (prelude_of s ≡ Ok (Stage.Whole v len)) × (8 + len ≡ length s) × (n ≡ length s)
    go (Ok (Stage'.Needs m)) p q = let z : ◌≡◌ {A = ℕ} 0 1 = cc in absurd (omega arith)
    go (Err e) p q = absurd (refused-whole e n v q)
    go (Ok (Stage'.Whole b len)) p q = by-bound 2 (8 + len) (length s) (8 + len) b
        (λ h. absurd (omega arith))
        (λ a h. absurd (refused-whole _ n v (sym (bounded_beyond 2 (8 + len) (length s) (8 + len) b a h) ∙ q)))
        (λ a h. let e = sym (bounded-rest 2 (8 + len) (length s) (8 + len) b a h) ∙ q in let z : ◌≡◌ {A = ℕ} 0 1 = cc in absurd (omega arith))
        (λ a h. let e = sym (bounded-whole 2 (8 + len) (length s) (8 + len) b a h) ∙ q in let m : 8 + len ≡ n = cc in let k : b ≡ v = cc in (len, p ∙ ap (λ i. Ok (Stage.Whole i len)) k, sym h, sym m ∙ sym h))

pub stage-whole : (s : List ℕ) (n v : ℕ) → start_stage s ≡ Ok (Whole n v) → (n ≡ length s) × (8 ≤ n)
stage-whole s n v e = let (len, _, a, b) = whole-said s n v e in (b, omega (arith, a, b))

module _ (s t : List ℕ) where
  pub fault_needs : {n : ℕ} → start_stage s ≡ Ok (Needs n) → start_fault s t ≡ refusal 134 0
  unfolding start_fault
  fault_needs {n} e = ap (λ x. refusal_of (answer_at x s t [] [])) e ∙ ap refusal_of (answer_needs s t [] [] n)

  pub fault-refused : {k : Refusal} → start_stage s ≡ Err k → start_fault s t ≡ k
  unfolding start_fault
  fault-refused {k} e = ap (λ x. refusal_of (answer_at x s t [] [])) e ∙ ap refusal_of (answer-kept s t [] [] k)

  pub fault-block : {n v : ℕ} {a : Result Fields ReadError} → start_stage s ≡ Ok (Whole n v) → block_answer v (block_in s n) t [] [] ≡ a → start_fault s t ≡ refusal_of (block_says a)
  unfolding start_fault
  fault-block {n} {v} e f = ap (λ x. refusal_of (answer_at x s t [] [])) e ∙ ap refusal_of (answer-whole s t [] [] n v) ∙ ap (λ a. refusal_of (block_says a)) f

  -- ---- storing

  pub store-refused : {o : List ℕ} {e : Refusal} → e ≡ start_fault s t → (e.number ≡ 0 → ⊥) → Storing s t o (Err e) o
  unfolding stored_in output_after
  store-refused {e = e} q h =
      let b = ne_eqb (start_fault s t).number 0 (λ z. h (ap (λ (k : Refusal). k.number) q ∙ z)) in
      record { answer = rw b (ap Err q); output = rw b }

  pub store_packed : {o o' : List ℕ} {e : Refusal} {p : Result ℕ Refusal} → e ≡ start_fault s t → e.number ≡ 0 → Packing s o p o' → Storing s t o p o'
  unfolding stored_in output_after
  store_packed q h w =
      let b = eq-eqb (start_fault s t).number 0 (sym (ap (λ (k : Refusal). k.number) q) ∙ h) in
      record { answer = rw b w.answer; output = rw b w.output }

-- ---- loading

-- a feed of nothing is the verdict on what is held
pub fed_nothing : {k : ℕ} {st p t s l : List ℕ} {r : Fed} {st' s' l' : List ℕ} → length p ≡ 0 → Feeding k st p t s l r st' s' l' → (st' ≡ st) × Judgement k st t s l r.answer s' l'
fed_nothing {k} {st} {p} {t} {s} {l} {r} {st'} {s'} {l'} e f =
    let n : taken_of k st p ≡ 0 = let m = taken-most start start-law k st p in omega (arith, m, e) in
    let a : held_after k st p ≡ k = ap (λ m. k + m) n ∙ add-zero k in
    let b : store_after k st p ≡ st = ap (paste st k p) n ∙ sym (paste-zero st k p) in
    (f.store ∙ b, subst (λ (z : ℕ × List ℕ). Judgement z.0 z.1 t s l r.answer s' l') (ap₂ (λ m u. (m, u)) a b) f.verdict)

module _ {f st t s l : List ℕ} {u : Result ℕ Refusal} {st₁ : List ℕ} (w : Unpacking f st u st₁) where
  pub load_refused : {e : Refusal} → u ≡ Err e → Loading f st t s l (Err e) st₁ s l
  load_refused e =
      let q = sym e ∙ w.answer in
      record { store = w.store; answer = ap (λ x. loaded_as x (store_in st (blocks_of f)) t s l) q; symbology = ap (λ x. symbology_as x (store_in st (blocks_of f)) t s l) q; layout = ap (λ x. layout_as x (store_in st (blocks_of f)) t s l) q }

  pub load_held : {n : ℕ} {p : List ℕ} {r : Fed} {st₂ s₂ l₂ : List ℕ} → u ≡ Ok n → length p ≡ 0 → Feeding n st₁ p t s l r st₂ s₂ l₂ → Loading f st t s l (Ok (record { len = n; answer = r.answer })) st₂ s₂ l₂
  load_held {n} {r = r} e z g =
      let (b, j) = fed_nothing z g in
      let q = sym e ∙ w.answer in
      record {
        store = b ∙ w.store;
        answer = ap (λ a. Ok (record { len = n; answer = a })) (j.answer ∙ ap (λ x. answer_at (stage_of n x) x t s l) w.store) ∙ ap (λ x. loaded_as x (store_in st (blocks_of f)) t s l) q;
        symbology = j.symbology ∙ ap (λ x. symbology_at (stage_of n x) x t s l) w.store ∙ ap (λ x. symbology_as x (store_in st (blocks_of f)) t s l) q;
        layout = j.layout ∙ ap (λ x. layout_at (stage_of n x) x t s l) w.store ∙ ap (λ x. layout_as x (store_in st (blocks_of f)) t s l) q;
      }
