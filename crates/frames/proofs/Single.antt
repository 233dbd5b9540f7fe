-- ONE ANSWER: two outcomes that meet a promise are equal.
-- Assumes nothing.
use Rattle.std.specs.Prelude.{ℕ, ◌≡◌, List, take}
use Rattle.std.proofs.Common.{sym, ap, ap₂, ◌∙◌}
use Rattle.frames.proofs.FramingLaws.{outcome}
use Rattle.frames.specs.Frames.{Framing}
use Rattle.frames.specs.declared.Framed.{Framed}

-- of `frame`: what it returns, and the store
pub one-frame : (k : ℕ) (st p : List ℕ) (x y : Framed) (st1 st2 : List ℕ) → Framing k st p x st1 → Framing k st p y st2 → (x ≡ y) × (st1 ≡ st2)
one-frame k st p x y st1 st2 f g = (
  ap₂ (λ n h. outcome n h x.answer) (f.taken ∙ sym g.taken) (f.held ∙ sym g.held) ∙ ap (outcome y.taken y.state.held) (f.answer ∙ sym g.answer),
  f.store ∙ sym g.store,
)

-- of `frame_part`
pub one-part : (st : List ℕ) (n : ℕ) (x y : List ℕ) → x ≡ take n st → y ≡ take n st → x ≡ y
one-part st n x y f g = f ∙ sym g
