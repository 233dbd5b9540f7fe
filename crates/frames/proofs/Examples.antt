-- Examples, checked by hand: each answer in its order, short streams, and a reading in pieces.
-- Assumes nothing.
use Rattle.std.specs.Prelude.{ℕ, ◌≡◌, refl, List, [], ◌∷◌, ◌++◌, replicate, Ok, Err}
use Rattle.codec.specs.Codec.{refusal, ◌then◌, named, checked, num, raw}
use Rattle.held.specs.Held.{bounded, held_of, poured, taken_of}
use Rattle.held.specs.declared.Holding.TheVariants.{Needs, Whole}
use Rattle.frames.proofs.CutLaws.{Reading, over, more, whole}
use Rattle.frames.specs.declared.Answer.TheVariants as Answer'
use Rattle.frames.proofs.FramingLaws.{outcome}
use Rattle.frames.specs.Frames.{header, header_of, frame, first_of, frames_in, frames_of}

-- n bytes, the first two of which are a length in words and an rtype
abbrev from : ℕ → ℕ → ℕ → List ℕ
from w t n = w ∷ t ∷ replicate n 0

-- more bytes are held than the store has, which comes before a store below 16
pub beyond_the_store : held_of frame 4 (from 4 1 1) ≡ Err (refusal 1 0)
unfolding held_of
beyond_the_store = refl

-- a store below 16, with nothing held yet
pub store-below_16 : held_of frame 0 (from 4 1 13) ≡ Err (refusal 101 0)
unfolding held_of
store-below_16 = refl

-- fifteen bytes held: their length is not judged before the sixteenth
pub fifteen_held : held_of frame 15 (from 3 1 14) ≡ Ok (Needs 1)
unfolding held_of header_of header ◌then◌ named checked num raw
fifteen_held = refl

-- a length of 12 bytes
pub length-below_16 : held_of frame 16 (from 3 1 14) ≡ Err (refusal 100 0)
unfolding held_of header_of header ◌then◌ named checked num raw
length-below_16 = refl

-- a store below the frame
pub store-below-frame : held_of frame 16 (from 5 1 14) ≡ Err (refusal 101 0)
unfolding held_of header_of header bounded ◌then◌ named checked num raw
store-below-frame = refl

-- more bytes are held than the frame has
pub beyond_the_frame : held_of frame 17 (from 4 1 15) ≡ Err (refusal 1 0)
unfolding held_of header_of header bounded ◌then◌ named checked num raw
beyond_the_frame = refl

-- four bytes of a frame are missing
pub four-missing : held_of frame 16 (from 5 1 18) ≡ Ok (Needs 4)
unfolding held_of header_of header bounded ◌then◌ named checked num raw
four-missing = refl

-- a whole frame of 16 bytes
pub whole-frame : held_of frame 16 (from 4 160 14) ≡ Ok (Whole 16 160)
unfolding held_of header_of header bounded ◌then◌ named checked num raw
whole-frame = refl

-- two frames, and a byte of the next
pub two-frames : frames_of 20 (from 4 160 14 ++ from 5 23 18 ++ (4 ∷ []))
    ≡ record { whole = from 4 160 14 ∷ from 5 23 18 ∷ []; left = 4 ∷ []; ends = Ok (Needs 15) }
unfolding frames_of frames_in first_of header_of header ◌then◌ named checked num raw
two-frames = refl

-- a frame, and one that is refused: its header is held, and what comes after is left in the stream
pub frame-and-refusal : frames_of 16 (from 4 160 14 ++ from 3 23 14 ++ from 4 160 14)
    ≡ record { whole = from 4 160 14 ∷ []; left = from 3 23 14; ends = Err (refusal 100 0) }
unfolding frames_of frames_in first_of header_of header ◌then◌ named checked num raw
frame-and-refusal = refl

-- no store, no frame
pub no_store : frames_of 15 (from 4 160 14) ≡ record { whole = []; left = []; ends = Err (refusal 101 0) }
unfolding frames_of frames_in first_of header_of header ◌then◌ named checked num raw
no_store = refl

abbrev store : List ℕ
store = replicate 16 9

-- a frame that comes in two pieces of 7 and 9 bytes, and then the end of the stream
pub cut_in_two : Reading 0 store (from 4 160 14) (record { whole = from 4 160 14 ∷ []; left = []; ends = Ok (Needs 16) }) 16
unfolding taken_of poured held_of header_of header bounded ◌then◌ named checked num raw
cut_in_two =
    more {st = store} {p = from 4 160 5} {x = outcome 7 7 (Ok (Answer'.Needs 9))} {st1 = from 4 160 5 ++ replicate 9 9} (replicate 9 0)
    (record { taken = refl; store = refl; held = refl; answer = refl }) refl
    (whole {p = replicate 9 0} {x = outcome 9 16 (Ok (Answer'.Frame 16 160))} {st1 = from 4 160 14} []
    (record { taken = refl; store = refl; held = refl; answer = refl }) refl
    (over {x = outcome 0 0 (Ok (Answer'.Needs 16))} {st1 = from 4 160 14} (record { taken = refl; store = refl; held = refl; answer = refl }) refl))
