-- What a frame promises gives what dbn_frame promises.
-- Assumes nothing.
use Rattle.std.specs.Prelude.{ℕ, ◌≡◌, List}
use Rattle.std.proofs.Common.{ap, ap₂, ◌∙◌}
use Rattle.held.specs.Held.{taken_of, held_after}
use Rattle.frames.specs.Frames.{frame, answer_number, Framing}
use Rattle.frames.specs.declared.Framed.{Framed}
use Rattle.c_frames.specs.Numbers.{framed_out, FrameC}

pub framed_c : (k : ℕ) (st p o : List ℕ) (x : Framed) (r : ℕ) (st1 o1 : List ℕ)
    → Framing k st p x st1 → r ≡ answer_number x.answer → o1 ≡ framed_out x.taken x.state.held x.answer o
    → FrameC k st p o r st1 o1
framed_c k st p o x r st1 o1 f n e =
    record {
      number = n ∙ ap answer_number f.answer;
      out = e ∙ ap₂ (λ a b. framed_out a b x.answer o) f.taken f.held ∙ ap (λ a. framed_out (taken_of frame k st p) (held_after frame k st p) a o) f.answer;
      store = f.store;
    }
