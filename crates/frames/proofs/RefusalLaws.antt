-- Which numbers refuse a frame: they are about no byte. Assumes nothing.
use Rattle.std.specs.Prelude.{ℕ, ◌*◌, ◌≤◌, Bool, true, false, ◌⊎◌, ◌≡◌, refl, List, length, take, get_or, Err, Result}
use Rattle.std.proofs.Common.{arith, inl, inr, sym, subst, ◌∙◌}
use Rattle.refusal.specs.declared.Refusal.{Refusal}
use Rattle.codec.specs.Codec.{refusal, Bytes}
use Rattle.codec.specs.CaseLaws.{by_le}
use Rattle.codec.specs.Refusals.{In}
use Rattle.held.specs.Held.{bounded, held_of}
use Rattle.held.proofs.RefusalLaws as why
use Rattle.held.proofs.StageLaws.{refused_needs, refused-whole, by-bound, bounded_beyond, bounded-rest, bounded-whole, stage_beyond, stage-head}
use Rattle.held.specs.declared.Holding.{Holding}
use Rattle.frames.specs.Frames.{is_length, header_of, frame, answer_of, frame_numbers, Framing}
use Rattle.frames.proofs.HeaderLaws.{told, header-few, header_is, frame-law, bad-held, good-held}
use Rattle.frames.proofs.FramingLaws.{refused-of}
use Rattle.frames.specs.declared.Framed.{Framed}

told-refused : (b : Bool) (w t : ℕ) {e : Refusal} → told b w t ≡ Err e → e ≡ refusal 100 0
told-refused false w t {e} q = let z : refusal 100 0 ≡ e = cc in sym z
told-refused true w t q = absurd (let z : ◌≡◌ {A = ℕ} 0 1 = cc in omega arith)

-- a header is refused by 100 alone
pub header_refused : (s : List ℕ) {e : Refusal} → header_of s ≡ Err e → e ≡ refusal 100 0
header_refused s {e} q =
    by_le 16 (length s)
    (λ h. told-refused (is_length (get_or s 0 0)) (get_or s 0 0) (get_or s 1 0) (sym (header_is s h) ∙ q))
    (λ h. absurd (refused_needs e _ (sym q ∙ header-few s h)))

-- WHY A FRAME IS REFUSED: by 1, 100 or 101, none of which has a place
abbrev pub Refusing : Refusal → Type 0
Refusing e = (e ≡ refusal 1 0) ⊎ ((e ≡ refusal 100 0) ⊎ (e ≡ refusal 101 0))

pub frame-why : (k : ℕ) (st : List ℕ) {e : Refusal} → held_of frame k st ≡ Err e → Refusing e
frame-why k st {e} q = go (why.why frame k st q)
  where
    go : why.Why frame k st e → Refusing e
    go (why.held i) = inl i
    go (why.store i) = inr (inr i)
    go (why.head i) = inr (inl (header_refused (take k st) i))

number_of : {e : Refusal} → Refusing e → In frame_numbers e.number
number_of (inl i) = subst (λ (j : Refusal). In frame_numbers j.number) (sym i) refl
number_of (inr (inl i)) = subst (λ (j : Refusal). In frame_numbers j.number) (sym i) refl
number_of (inr (inr i)) = subst (λ (j : Refusal). In frame_numbers j.number) (sym i) refl

-- an answer's refusal is by one of the numbers
pub answer-refused : (k : ℕ) (st : List ℕ) {e : Refusal} → answer_of (held_of frame k st) ≡ Err e → In frame_numbers e.number
answer-refused k st {e} q = number_of (frame-why k st (refused-of (held_of frame k st) e q))

-- and so is that of `frame`
pub frame-refuses : (k : ℕ) (st p : List ℕ) (x : Framed) (st1 : List ℕ) {e : Refusal} → Framing k st p x st1 → x.answer ≡ Err e → Refusing e
frame-refuses k st p x st1 {e} f q = frame-why _ _ (refused-of _ e (sym f.answer ∙ q))

-- A STORE OF 1,020 BYTES HAS ROOM FOR EVERY FRAME: it is never refused by 101
pub never-short : (k : ℕ) (st : List ℕ) {e : Refusal} → Bytes st → 1020 ≤ length st → held_of frame k st ≡ Err e → (e ≡ refusal 1 0) ⊎ (e ≡ refusal 100 0)
never-short k st {e} bytes room q =
    by_le k (length st)
    (λ inside.
    by_le 16 k
    (λ many.
    by_le 16 (4 * get_or st 0 0)
    (λ long.
    let w : held_of frame k st ≡ bounded 101 (length st) k (4 * get_or st 0 0) (get_or st 1 0) = good-held k st many inside long in
    by-bound 101 (length st) k (4 * get_or st 0 0) (get_or st 1 0)
    (λ a. absurd (omega (arith, bytes 0)))
    (λ a b. inl (same (sym q ∙ w ∙ bounded_beyond 101 (length st) k (4 * get_or st 0 0) (get_or st 1 0) a b)))
    (λ a b. absurd (refused_needs e _ (sym q ∙ w ∙ bounded-rest 101 (length st) k (4 * get_or st 0 0) (get_or st 1 0) a b)))
    (λ a b. absurd (refused-whole e _ _ (sym q ∙ w ∙ bounded-whole 101 (length st) k (4 * get_or st 0 0) (get_or st 1 0) a b))))
    (λ short. inr (same (sym q ∙ bad-held k st many inside short))))
    (λ few. absurd (refused_needs e _ (sym q ∙ stage-head frame frame-law k st few (omega arith)))))
    (λ beyond. inl (same (sym q ∙ stage_beyond frame k st beyond)))
  where
    same : {j : Refusal} → ◌≡◌ {A = Result Holding Refusal} (Err e) (Err j) → e ≡ j
    same i = cc
