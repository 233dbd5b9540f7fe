-- What a piece does: the code's two ways to it; the least count; never past the frame; what a frame that is whole or refused leaves.
-- Assumes nothing.
use Rattle.std.specs.Prelude.{ℕ, ◌+◌, ◌-◌, ◌≤◌, ◌<◌, ◌⊎◌, ◌≡◌, refl, List, length, get_or, Result, Ok, Err}
use Rattle.std.proofs.Common.{arith, inl, inr, ⊎_elim, sym, ap, ap₂, subst, subst₂, ◌∙◌}
use Rattle.std.proofs.Math.Seq.{paste, paste-zero}
use Rattle.refusal.specs.declared.Refusal.{Refusal}
use Rattle.held.specs.Held.{held_of, need_of, held_after, store_after}
use Rattle.held.proofs.StageLaws.{Pours}
use Rattle.held.proofs.PieceLaws.{taken_none}
use Rattle.held.proofs.LeastLaws as held
use Rattle.held.proofs.NeverPastLaws as never
use Rattle.held.proofs.NeverPastLaws.{Inside}
use Rattle.held.specs.declared.Holding.{Holding}
use Rattle.held.specs.declared.Holding.TheVariants as Holding'
use Rattle.frames.specs.Frames.{frame, answer_of, Framing}
use Rattle.frames.proofs.HeaderLaws.{frame-law}
use Rattle.frames.proofs.AtOnceLaws.{AtOnce, taken-at-once}
use Rattle.frames.specs.declared.Answer.{Answer}
use Rattle.frames.specs.declared.Answer.TheVariants.{Needs, Frame}
use Rattle.frames.specs.declared.Framed.{Framed}

-- so many bytes taken, so many then held, and the answer
abbrev pub outcome : ℕ → ℕ → Result Answer Refusal → Framed
outcome n h r = record { taken = n; state = record { held = h }; answer = r }

-- two pours, and the verdict
pub framed : (k : ℕ) (st p : List ℕ) (a b : ℕ) (st2 : List ℕ) (x : Result Holding Refusal) (r : Result Answer Refusal) → Pours frame k st p a b st2
    → x ≡ held_of frame (k + a + b) st2 → r ≡ answer_of x
    → Framing k st p (outcome (a + b) (k + a + b) r) st2
framed k st p a b st2 x r w ex er =
    record { taken = w.taken; store = w.store; held = w.held; answer = er ∙ ap answer_of (ex ∙ ap₂ (held_of frame) w.held w.store) }

-- a whole frame taken at once
pub framed-at-once : (k : ℕ) (st p : List ℕ) (w n : ℕ) (st1 : List ℕ) → k ≡ 0 → AtOnce (length st) p w → n ≡ w → st1 ≡ paste st 0 p n
    → Framing k st p (outcome n n (Ok (Frame w (get_or p 1 0)))) st1
framed-at-once k st p w n st1 e o q s =
    let a = taken-at-once st p w o in
    subst_zero (sym e) (record {
      taken = q ∙ sym a.taken;
      store = s ∙ ap (paste st 0 p) (q ∙ sym a.taken);
      held = q ∙ sym a.held;
      answer = sym (ap answer_of (ap (λ m. held_of frame m (store_after frame 0 st p)) a.held ∙ a.stage));
    })
  where
    subst_zero : 0 ≡ k → Framing 0 st p (outcome n n (Ok (Frame w (get_or p 1 0)))) st1 → Framing k st p (outcome n n (Ok (Frame w (get_or p 1 0)))) st1
    subst_zero e f = subst (λ m. Framing m st p (outcome n n (Ok (Frame w (get_or p 1 0)))) st1) e f

-- ---- the answer tells what is held

needs_of : (x : Result Holding Refusal) (n : ℕ) → answer_of x ≡ Ok (Needs n) → x ≡ Ok (Holding'.Needs n)
needs_of (Ok (Holding'.Needs m)) n e = let q : m ≡ n = cc in ap (λ (i : ℕ). Ok (Holding'.Needs i)) q
needs_of (Err m) n e = absurd (let z : ◌≡◌ {A = ℕ} 0 1 = cc in omega arith)
needs_of (Ok (Holding'.Whole w t)) n e = absurd (let z : ◌≡◌ {A = ℕ} 0 1 = cc in omega arith)

frame-of : (x : Result Holding Refusal) (w t : ℕ) → answer_of x ≡ Ok (Frame w t) → x ≡ Ok (Holding'.Whole w t)
frame-of (Ok (Holding'.Needs m)) w t e = absurd (let z : ◌≡◌ {A = ℕ} 0 1 = cc in omega arith)
frame-of (Err m) w t e = absurd (let z : ◌≡◌ {A = ℕ} 0 1 = cc in omega arith)
frame-of (Ok (Holding'.Whole v u)) w t e =
    let q : v ≡ w = cc in
    let r : u ≡ t = cc in
    ap₂ (λ (i j : ℕ). Ok (Holding'.Whole i j)) q r

pub refused-of : (x : Result Holding Refusal) (n : Refusal) → answer_of x ≡ Err n → x ≡ Err n
refused-of (Ok (Holding'.Needs m)) n e = absurd (let z : ◌≡◌ {A = ℕ} 0 1 = cc in omega arith)
refused-of (Err m) n e = let q : m ≡ n = cc in ap Err q
refused-of (Ok (Holding'.Whole w t)) n e = absurd (let z : ◌≡◌ {A = ℕ} 0 1 = cc in omega arith)

module _ (k : ℕ) (st p : List ℕ) (x : Framed) (st1 : List ℕ) (f : Framing k st p x st1) where
  abbrev after : Result Holding Refusal
  after = held_of frame (held_after frame k st p) (store_after frame k st p)

  -- what is held afterwards is the store's front, so many bytes
  pub held_after_lem : held_of frame x.state.held st1 ≡ after
  held_after_lem = ap₂ (held_of frame) f.held f.store

  pub after_needs : (n : ℕ) → x.answer ≡ Ok (Needs n) → after ≡ Ok (Holding'.Needs n)
  after_needs n e = needs_of after n (sym f.answer ∙ e)

  pub after_frame : (w t : ℕ) → x.answer ≡ Ok (Frame w t) → after ≡ Ok (Holding'.Whole w t)
  after_frame w t e = frame-of after w t (sym f.answer ∙ e)

  pub after-refused : (e : Refusal) → x.answer ≡ Err e → after ≡ Err e
  after-refused e q = refused-of after e (sym f.answer ∙ q)

  -- NEVER PAST THE FRAME: nothing is taken, or what is then held does not reach past the header, or past the frame that it announces
  pub never-past : (x.taken ≡ 0) ⊎ Inside frame x.state.held st1
  never-past =
      ⊎_elim (λ e. inl (f.taken ∙ e)) (λ i. inr (subst₂ (Inside frame) (sym f.held) (sym f.store) i)) (never.never-past frame frame-law k st p)

-- ---- the next piece

-- THE LEAST COUNT. Where a piece left k bytes held and n are needed, what the next piece q then gives: of fewer all are taken and exactly
-- the rest is needed; so many end the header, or are all that is taken, and the frame is whole
pub record Least (k n : ℕ) (q : List ℕ) (y : Framed) : Type 0 where
  pub fewer : length q < n → (y.taken ≡ length q) × (y.answer ≡ Ok (Needs (n - length q)))
  pub header : n ≤ length q → k < 16 → 16 ≤ y.state.held
  pub frame : n ≤ length q → 16 ≤ k → (y.taken ≡ n) × ((w : ℕ) × (t : ℕ) × (y.answer ≡ Ok (Frame w t)))

pub least : (k : ℕ) (st p : List ℕ) (x : Framed) (st1 : List ℕ) (n : ℕ) (q : List ℕ) (y : Framed) (st2 : List ℕ)
    → Framing k st p x st1 → x.answer ≡ Ok (Needs n) → Framing x.state.held st1 q y st2 → Least x.state.held n q y
least k st p x st1 n q y st2 f e g =
    let l = held.least frame frame-law x.state.held st1 n (held_after_lem k st p x st1 f ∙ after_needs k st p x st1 f n e) q in
    record {
      fewer = λ h. (g.taken ∙ (l.fewer h).0, g.answer ∙ ap answer_of (l.fewer h).1);
      header = λ h few. omega (arith, l.head h few, g.held);
      frame = λ h many. let (all, (w, t, u)) = l.whole h many in (g.taken ∙ all, (w, t, g.answer ∙ ap answer_of u));
    }

need-none : (x : Result Holding Refusal) → ((n : ℕ) → x ≡ Ok (Holding'.Needs n) → ⊥) → need_of x ≡ 0
need-none (Ok (Holding'.Needs n)) h = absurd (h n refl)
need-none (Err e) h = refl
need-none (Ok (Holding'.Whole w t)) h = refl

-- NOTHING MORE: held bytes that are a whole frame, or refused, take nothing, and stay what they are
pub nothing_more : (k : ℕ) (st p : List ℕ) (x : Framed) (st1 : List ℕ) → Framing k st p x st1 → ((n : ℕ) → held_of frame k st ≡ Ok (Holding'.Needs n) → ⊥)
    → (x.taken ≡ 0) × (st1 ≡ st) × (x.answer ≡ answer_of (held_of frame k st))
nothing_more k st p x st1 f h =
    let z = taken_none frame frame-law k st p (need-none (held_of frame k st) h) in
    let hk : held_after frame k st p ≡ k = omega arith in
    let hs : store_after frame k st p ≡ st = ap (paste st k p) z ∙ sym (paste-zero st k p) in
    (f.taken ∙ z, f.store ∙ hs, f.answer ∙ ap answer_of (ap₂ (held_of frame) hk hs))
