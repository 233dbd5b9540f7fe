-- Which numbers a feed gives, and where.
-- Assumes nothing.
use Rattle.block_format.specs.declared.Fields.{Fields}
use Rattle.block_format.specs.declared.ReadError.{ReadError}
use Rattle.std.specs.Prelude.{ℕ, ◌-◌, ◌≤◌, List, take, drop, Result, Ok, Err}
use Rattle.std.proofs.Common.{zero-le, arith, sym, subst, ◌∙◌, ⊎_elim, length-take}
use Rattle.std.proofs.Math.Path.{◌≡◌, refl, ap}
use Rattle.refusal.specs.declared.Refusal.{Refusal}
use Rattle.codec.specs.Codec.{refusal}
use Rattle.codec.specs.Refusals.{In}
use Rattle.codec.proofs.RefusalLaws.{in_more}
use Rattle.prelude.specs.Prelude.{prelude_numbers, prelude_of}
use Rattle.prelude.proofs.RefusalLaws.{prelude-refuses, prelude-place}
use Rattle.prelude.specs.declared.Stage.{Stage}
use Rattle.prelude.specs.declared.Stage.TheVariants.{Needs, Whole}
use Rattle.block_format.specs.Read.{block_numbers, block_answer}
use Rattle.block_format.proofs.RefusalLaws.{answer-refuses, answer-within, refused_anyway}
use Rattle.feed.specs.Feeding.{announced, start, stage_of, block_in, block_says, answer_at, feed_numbers, Feeding}
use Rattle.feed.proofs.StageLaws.{start-law}
use Rattle.held.proofs.StageLaws.{is_whole}
use Rattle.held.proofs.RefusalLaws as why
use Rattle.held.specs.declared.Holding.{Holding}
use Rattle.held.specs.declared.Holding.TheVariants as Holding'
use Rattle.feed.specs.declared.Answer.{Answer}
use Rattle.feed.specs.declared.Fed.{Fed}

says-refused : (a : Result Fields ReadError) {e : Refusal} → block_says a ≡ Err (ReadError.Refused e) → Err (ReadError.Refused e) ≡ a
unfolding block_says
says-refused (Ok f) q = let z : ◌≡◌ {A = ℕ} 0 1 = cc in absurd (omega arith)
says-refused (Err (ReadError.Refused j)) q = cc
says-refused (Err (ReadError.Short s l)) q = let z : ◌≡◌ {A = ℕ} 0 1 = cc in absurd (omega arith)

-- WHY HELD BYTES ARE REFUSED: 1 or 2, which have no place; or as the prelude is, its place counted from there; or as the block is, its place
-- counted from there
pub data Why (k : ℕ) (st t s l : List ℕ) (e : Refusal) : Type 0 where
  held : e ≡ refusal 1 0 → Why k st t s l e
  store : e ≡ refusal 2 0 → Why k st t s l e
  prelude : prelude_of (take k st) ≡ Err e → Why k st t s l e
  block : (v n : ℕ) → stage_of k st ≡ Ok (Holding'.Whole n v) → Err (ReadError.Refused e) ≡ block_answer v (block_in st n) t s l → Why k st t s l e

module _ (k : ℕ) (st t s l : List ℕ) {e : Refusal} where
  announced-why : (x : Result Stage Refusal) → announced x ≡ Err e → x ≡ Err e
  announced-why (Ok (Needs m)) q = let z : ◌≡◌ {A = ℕ} 0 1 = cc in absurd (omega arith)
  announced-why (Err j) q = let z : j ≡ e = cc in ap Err z
  announced-why (Ok (Whole v len)) q = let z : ◌≡◌ {A = ℕ} 0 1 = cc in absurd (omega arith)

  stage-why : why.Why start k st e → Why k st t s l e
  stage-why (why.held q) = held q
  stage-why (why.store q) = store q
  stage-why (why.head q) = prelude (announced-why (prelude_of (take k st)) q)

  pub answer-why : answer_at (stage_of k st) st t s l ≡ Err (ReadError.Refused e) → Why k st t s l e
  unfolding answer_at
  answer-why q = go (stage_of k st) refl q
    where
      go : (x : Result Holding Refusal) → stage_of k st ≡ x → answer_at x st t s l ≡ Err (ReadError.Refused e) → Why k st t s l e
      go (Ok (Holding'.Needs n)) i q = let z : ◌≡◌ {A = ℕ} 0 1 = cc in absurd (omega arith)
      go (Err j) i q = let z : j ≡ e = cc in stage-why (why.why start k st (i ∙ ap Err z))
      go (Ok (Holding'.Whole n v)) i q = block v n i (says-refused (block_answer v (block_in st n) t s l) q)

  number_of : Why k st t s l e → In feed_numbers e.number
  number_of (held q) = subst (λ (j : Refusal). In feed_numbers j.number) (sym q) refl
  number_of (store q) = subst (λ (j : Refusal). In feed_numbers j.number) (sym q) refl
  number_of (prelude q) = in_more prelude_numbers feed_numbers refl e.number (prelude-refuses (take k st) q)
  number_of (block v n _ q) = in_more block_numbers feed_numbers refl e.number (answer-refuses v (block_in st n) t s l q)

  place_of : Why k st t s l e → e.place ≤ k
  place_of (held q) = rw q zero-le
  place_of (store q) = rw q zero-le
  place_of (prelude q) = omega (arith, prelude-place (take k st) q, length-take k st)
  place_of (block v n i q) =
      let w = is_whole start start-law k st n v i in
      ⊎_elim (λ z. rw z (omega (arith, w.sum))) (λ h. omega (arith, w.sum, length-take (n - 8) (drop 8 st))) (answer-within v (block_in st n) t s l q)

  -- the number of the verdict's refusal, and its place, which is within the held bytes
  pub answer-refused : answer_at (stage_of k st) st t s l ≡ Err (ReadError.Refused e) → In feed_numbers e.number
  answer-refused q = number_of (answer-why q)

  pub answer-place : answer_at (stage_of k st) st t s l ≡ Err (ReadError.Refused e) → e.place ≤ k
  answer-place q = place_of (answer-why q)

  -- whatever tables are lent: the same number at the same place
  pub answer_anyway : answer_at (stage_of k st) st t s l ≡ Err (ReadError.Refused e) → (s₂ l₂ : List ℕ) → answer_at (stage_of k st) st t s₂ l₂ ≡ Err (ReadError.Refused e)
  unfolding answer_at block_says
  answer_anyway q s₂ l₂ = go (stage_of k st) q
    where
      go : (x : Result Holding Refusal) → answer_at x st t s l ≡ Err (ReadError.Refused e) → answer_at x st t s₂ l₂ ≡ Err (ReadError.Refused e)
      go (Ok (Holding'.Needs n)) q = let z : ◌≡◌ {A = ℕ} 0 1 = cc in absurd (omega arith)
      go (Err j) q = q
      go (Ok (Holding'.Whole n v)) q = ap block_says (refused_anyway v (block_in st n) t s l (says-refused (block_answer v (block_in st n) t s l) q) s₂ l₂)

-- what a feed's answer refuses with, and where
module _ (k : ℕ) (st p t s l : List ℕ) (r : Fed) (st' s' l' : List ℕ) {e : Refusal} (f : Feeding k st p t s l r st' s' l') (q : r.answer ≡ Err (ReadError.Refused e)) where
  pub feed_refuses : In feed_numbers e.number
  feed_refuses = answer-refused _ _ t s l (sym f.verdict.answer ∙ q)

  pub feed_place : e.place ≤ r.state.held
  feed_place = rw f.held (answer-place _ _ t s l (sym f.verdict.answer ∙ q))

  -- and so with other tables
  pub feed_anyway : (s₂ l₂ : List ℕ) {y : Fed} {st₂ s₂' l₂' : List ℕ} → Feeding k st p t s₂ l₂ y st₂ s₂' l₂' → y.answer ≡ Err (ReadError.Refused e)
  feed_anyway s₂ l₂ g = g.verdict.answer ∙ answer_anyway _ _ t s l (sym f.verdict.answer ∙ q) s₂ l₂
