-- Frames after the metadata, as document 02's request 2 has them: records of versions 1 to 3, each handed over once it is whole.
-- Assumes nothing.
use Rattle.refusal.specs.declared.Refusal.{Refusal}
use Rattle.std.specs.Prelude.{ℕ, zero, suc, ◌-◌, ◌*◌, Bool, false, cond, ◌≡◌, refl, List, [], ◌∷◌, length, take, drop, leb, ltb, Result, Ok, Err}
use Rattle.codec.specs.Codec.{Res, ok, refuse, refusal}
use Rattle.codec.proofs.Format.{Format, num, num_test, ◌then◌, named}
use Rattle.held.specs.Held.{Head, held_of, taken_of, held_after, store_after}
use Rattle.held.specs.declared.Holding.{Holding}
use Rattle.held.specs.declared.Holding.TheVariants.{Needs, Whole}
use Rattle.frames.specs.declared.Answer.{Answer}
use Rattle.frames.specs.declared.Answer.TheVariants.{Frame}
use Rattle.frames.specs.declared.Framed.{Framed}

-- ---- the header

-- what is read of a header: the frame's length in four-byte words, the header's 16 bytes included, and the rtype
pub record Header : Type 0 where
  pub words : ℕ
  pub rtype : ℕ

-- a length of 16 bytes or more; below it is 100
abbrev pub is_length : ℕ → Bool
is_length w = leb 16 (4 * w)

-- the length's byte, then that of the rtype
unfoldable pub header : Format Header false
header = named
    (λ z. record { words = z.0; rtype = z.1 })
    (λ h. (h.words, h.rtype))
    (λ x. refl)
    (num_test is_length 100 100 1 then num 100 1)

-- a header announces a frame
abbrev pub said : Res Header → Result Holding Refusal
said (ok h j) = Ok (Whole (4 * h.words) h.rtype)
said (refuse k) = Err k

-- THE VERDICT on a header: what is missing of its sixteen bytes; with sixteen held 100, or the frame's length and rtype
unfoldable pub header_of : List ℕ → Result Holding Refusal
header_of s = cond (ltb (length s) 16) (Ok (Needs (16 - length s))) (said (header.codec.parse 0 s 0))

-- ---- one frame

-- a frame begins with its header; 101 refuses a store below 16 bytes, or below the frame
abbrev pub frame : Head
frame = record { size = 16; short = 101; says = header_of }

-- what held bytes are, as the answer
abbrev pub answer_of : Result Holding Refusal → Result Answer Refusal
answer_of (Ok (Needs n)) = Ok (Answer.Needs n)
answer_of (Err e) = Err e
answer_of (Ok (Whole n t)) = Ok (Frame n t)

-- what refuses a frame: the held count, its length, the store
abbrev pub frame_numbers : List ℕ
frame_numbers = 1 ∷ 100 ∷ 101 ∷ []

-- A PIECE p after k held bytes of a store: the count taken; those bytes right after the held ones, the rest of the store as it was; the new
-- count; what is then held
pub record Framing (k : ℕ) (st p : List ℕ) (r : Framed) (st' : List ℕ) : Type 0 where
  pub taken : r.taken ≡ taken_of frame k st p
  pub store : st' ≡ store_after frame k st p
  pub held : r.state.held ≡ held_after frame k st p
  pub answer : r.answer ≡ answer_of (held_of frame (held_after frame k st p) (store_after frame k st p))

-- an answer's refusal number; 0 where it is none
abbrev pub answer_number : Result Answer Refusal → ℕ
answer_number (Ok (Answer.Needs n)) = 0
answer_number (Ok (Frame w t)) = 0
answer_number (Err e) = e.number

-- ---- the frames of a stream

-- an announced frame, with a store of n bytes and m bytes of the stream left: 101 below the frame; what is missing of it; or the frame
abbrev pub fits : ℕ → ℕ → Result Holding Refusal → Result Holding Refusal
fits n m (Ok (Needs j)) = Ok (Needs j)
fits n m (Err e) = Err e
fits n m (Ok (Whole w t)) = cond (ltb n w) (Err (refusal 101 0)) (cond (ltb m w) (Ok (Needs (w - m))) (Ok (Whole w t)))

-- what stands first in a stream, with a store of n bytes: 101 below 16, then what the header says
unfoldable pub first_of : ℕ → List ℕ → Result Holding Refusal
first_of n s = cond (ltb n 16) (Err (refusal 101 0)) (fits n (length s) (header_of s))

-- a stream is whole frames, then bytes that are held, and what those are: no whole frame yet, or refused
pub record Frames : Type 0 where
  pub whole : List (List ℕ)
  pub left : List ℕ
  pub ends : Result Holding Refusal

-- a frame before others
infixr 25 ◌before◌
abbrev pub ◌before◌ : List ℕ → Frames → Frames
f before r = record { whole = f ∷ r.whole; left = r.left; ends = r.ends }

-- of a refused frame the header is held; nothing is where the store is below 16
abbrev pub refused_at : ℕ → ℕ
refused_at n = cond (ltb n 16) 0 16

-- how it goes on after what stands first; `rest` is for the bytes after a frame
abbrev pub goes_on : ℕ → List ℕ → (List ℕ → Frames) → Result Holding Refusal → Frames
goes_on n s rest (Ok (Needs j)) = record { whole = []; left = s; ends = Ok (Needs j) }
goes_on n s rest (Err e) = record { whole = []; left = take (refused_at n) s; ends = Err e }
goes_on n s rest (Ok (Whole w t)) = take w s before rest (drop w s)

-- at most m frames
unfoldable pub frames_in : ℕ → ℕ → List ℕ → Frames
frames_in zero n s = record { whole = []; left = s; ends = first_of n s }
frames_in (suc m) n s = goes_on n s (frames_in m n) (first_of n s)

-- THE FRAMES OF A STREAM, with a store of n bytes. A frame has 16 bytes or more, so there are not more than bytes
unfoldable pub frames_of : ℕ → List ℕ → Frames
frames_of n s = frames_in (suc (length s)) n s
