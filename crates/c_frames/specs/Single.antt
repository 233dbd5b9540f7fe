-- ONE ANSWER, and which numbers it can be.
-- Assumes nothing.
use Rattle.std.specs.Prelude.{ℕ, ◌≡◌, refl, List, ◌∷◌, Result, Ok, Err}
use Rattle.std.proofs.Common.{sym, subst}
use Rattle.refusal.specs.declared.Refusal.{Refusal}
use Rattle.codec.specs.Refusals.{In}
use Rattle.codec.proofs.RefusalLaws.{in_more}
use Rattle.c_texts.specs.Single.{one}
use Rattle.frames.specs.Frames.{answer_number, frame_numbers}
use Rattle.frames.proofs.RefusalLaws.{answer-refused}
use Rattle.frames.specs.declared.Answer.{Answer}
use Rattle.frames.specs.declared.Answer.TheVariants as Answer'
use Rattle.c_frames.specs.Numbers.{framed_answer, FrameC}

-- two outcomes of dbn_frame are equal: number, `out`, store
pub one-frame : (k : ℕ) (st p o : List ℕ) (r q : ℕ) (st1 o1 st2 o2 : List ℕ)
    → FrameC k st p o r st1 o1 → FrameC k st p o q st2 o2 → (r ≡ q) × ((st1 ≡ st2) × (o1 ≡ o2))
one-frame k st p o r q st1 o1 st2 o2 f g = (one f.number g.number, (one f.store g.store, one f.out g.out))

-- dbn_frame: 0 or a frame's refusal
pub frame-number : (k : ℕ) (st p o : List ℕ) (r : ℕ) (st' o' : List ℕ) → FrameC k st p o r st' o' → In (0 ∷ frame_numbers) r
frame-number k st p o r st' o' f = subst (In (0 ∷ frame_numbers)) (sym f.number) (go (framed_answer k st p) (λ e i. answer-refused _ _ i))
  where
    go : (a : Result Answer Refusal) → ((e : Refusal) → a ≡ Err e → In frame_numbers e.number) → In (0 ∷ frame_numbers) (answer_number a)
    go (Ok (Answer'.Needs n)) h = refl
    go (Ok (Answer'.Frame w t)) h = refl
    go (Err e) h = in_more frame_numbers (0 ∷ frame_numbers) refl e.number (h e refl)
