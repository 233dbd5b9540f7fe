-- What dbn_frame answers and writes to `out`.
-- Assumes nothing.
use Rattle.refusal.specs.declared.Refusal.{Refusal}
use Rattle.std.specs.Prelude.{ℕ, ◌≡◌, List, set, Result, Ok, Err}
use Rattle.held.specs.Held.{held_of, taken_of, held_after, store_after}
use Rattle.frames.specs.Frames.{frame, answer_of, answer_number}
use Rattle.frames.specs.declared.Answer.{Answer}
use Rattle.frames.specs.declared.Answer.TheVariants.{Needs, Frame}

-- the needed count at 2; a frame's length at 3 and its rtype at 4; a refusal leaves both as they were
abbrev pub answer_out : Result Answer Refusal → List ℕ → List ℕ
answer_out (Ok (Needs n)) o = set o 2 n
answer_out (Ok (Frame w t)) o = set (set o 3 w) 4 t
answer_out (Err e) o = o

-- taken at 0, held at 1, needed at 2, 0 unless bytes are needed
abbrev pub framed_out : ℕ → ℕ → Result Answer Refusal → List ℕ → List ℕ
framed_out taken held a o = answer_out a (set (set (set o 0 taken) 1 held) 2 0)

-- the answer after the piece p
abbrev pub framed_answer : ℕ → List ℕ → List ℕ → Result Answer Refusal
framed_answer k st p = answer_of (held_of frame (held_after frame k st p) (store_after frame k st p))

-- THE PROMISE of dbn_frame
pub record FrameC (k : ℕ) (st p o : List ℕ) (r : ℕ) (st' o' : List ℕ) : Type 0 where
  pub number : r ≡ answer_number (framed_answer k st p)
  pub out : o' ≡ framed_out (taken_of frame k st p) (held_after frame k st p) (framed_answer k st p) o
  pub store : st' ≡ store_after frame k st p
