-- A frame that comes whole in one piece, with nothing held: it is taken at once. A tool of the code and no promise. Assumes nothing.
use Rattle.std.specs.Prelude.{ℕ, ◌*◌, ◌≤◌, ◌<◌, Bool, true, false, ◌≡◌, refl, List, length, get_or, leb, Ok, Some, None}
use Rattle.std.proofs.Common.{arith, sym, ap, subst, ◌∙◌}
use borrow.Author.Tests.{le-leb, lt-leb, leb-true}
use Rattle.held.specs.Held.{put_of}
use Rattle.held.proofs.StageLaws.{put_all}
use Rattle.held.proofs.AloneLaws.{Alone, alone-whole}
use Rattle.held.specs.declared.Holding.TheVariants.{Needs, Whole}
use Rattle.frames.specs.Frames.{frame}
use Rattle.frames.proofs.HeaderLaws.{frame-law, frame_is, header-first}
use Rattle.frames.specs.AtOnceLaws.{tried, whole_in}

module _ (n : ℕ) (p : List ℕ) where
  pub none-header : length p < 16 → whole_in n p ≡ None
  unfolding whole_in
  none-header h = simp (lt-leb _ _ h)

  pub none-length : 16 ≤ length p → 4 * get_or p 0 0 < 16 → whole_in n p ≡ None
  unfolding whole_in
  none-length h g = simp (le-leb _ _ h, lt-leb _ _ g)

  pub none-frame : 16 ≤ length p → 16 ≤ 4 * get_or p 0 0 → length p < 4 * get_or p 0 0 → whole_in n p ≡ None
  unfolding whole_in
  none-frame h g f = simp (le-leb _ _ h, le-leb _ _ g, lt-leb _ _ f)

  pub none-room : 16 ≤ length p → 16 ≤ 4 * get_or p 0 0 → 4 * get_or p 0 0 ≤ length p → n < 4 * get_or p 0 0 → whole_in n p ≡ None
  unfolding whole_in
  none-room h g f r = simp (le-leb _ _ h, le-leb _ _ g, le-leb _ _ f, lt-leb _ _ r)

  pub some-frame : 16 ≤ length p → 16 ≤ 4 * get_or p 0 0 → 4 * get_or p 0 0 ≤ length p → 4 * get_or p 0 0 ≤ n → whole_in n p ≡ Some (4 * get_or p 0 0)
  unfolding whole_in
  some-frame h g f r = simp (le-leb _ _ h, le-leb _ _ g, le-leb _ _ f, le-leb _ _ r)

-- what it is where there is one
pub record AtOnce (n : ℕ) (p : List ℕ) (w : ℕ) : Type 0 where
  pub words : w ≡ 4 * get_or p 0 0
  pub long : 16 ≤ w
  pub there : w ≤ length p
  pub room : w ≤ n

none-some : {v : ℕ} → None ≡ Some v → ⊥
none-some h = let z : ◌≡◌ {A = ℕ} 0 1 = cc in omega arith

tried-some : (a b c d : Bool) (n : ℕ) (p : List ℕ) (w : ℕ) → w ≡ 4 * get_or p 0 0 → leb 16 w ≡ b → leb w (length p) ≡ c → leb w n ≡ d
    → {v : ℕ} → tried a b c d w ≡ Some v → AtOnce n p v
tried-some false b c d n p w e qb qc qd h = absurd (none-some h)
tried-some true false c d n p w e qb qc qd h = absurd (none-some h)
tried-some true true false d n p w e qb qc qd h = absurd (none-some h)
tried-some true true true false n p w e qb qc qd h = absurd (none-some h)
tried-some true true true true n p w e qb qc qd {v} h = let i : w ≡ v = cc in subst (AtOnce n p) i (record { words = e; long = leb-true 16 w qb; there = leb-true w (length p) qc; room = leb-true w n qd })

pub at_once : (n : ℕ) (p : List ℕ) {v : ℕ} → whole_in n p ≡ Some v → AtOnce n p v
unfolding whole_in
at_once n p h = tried-some (leb 16 (length p)) _ _ _ n p (4 * get_or p 0 0) refl refl refl refl h

-- such a frame is taken, and is held whole
pub taken-at-once : (st p : List ℕ) (w : ℕ) → AtOnce (length st) p w → Alone frame st p w (Ok (Whole w (get_or p 1 0)))
taken-at-once st p w a =
    let long : 16 ≤ w = a.long in
    let there : w ≤ length p = a.there in
    let room : w ≤ length st = a.room in
    alone-whole frame frame-law st p (omega arith) (omega arith) w (get_or p 1 0)
    (sym (header-first p (omega arith)) ∙ frame_is p (omega arith) (omega (arith, a.words)) ∙ ap (λ n. Ok (Whole n (get_or p 1 0))) (sym a.words))
    room long there

-- and `pour` puts all of it into the store
pub put-at-once : (st p : List ℕ) (w : ℕ) → AtOnce (length st) p w → put_of 0 st p (Ok (Needs w)) ≡ w
put-at-once st p w a = put_all 0 st p w a.there (omega (arith, a.room))
