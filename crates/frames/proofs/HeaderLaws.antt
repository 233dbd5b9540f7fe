-- The header is a head: what it says by its first two bytes. Assumes nothing.
use Rattle.refusal.specs.declared.Refusal.{Refusal}
use Rattle.std.specs.Prelude.{ℕ, ◌-◌, ◌*◌, ◌≤◌, ◌<◌, Bool, cond, ◌≡◌, refl, List, length, take, get_or, Result, Ok, Err}
use Rattle.std.proofs.Common.{arith, sym, ap, ◌∙◌, lt-ltb, le-ltb, le-leb, leb-true, length-take-le, get_or-take}
use Rattle.std.proofs.Math.Bool.{true, false}
use Rattle.std.proofs.lemmas.Bool.{lt-leb}
use Rattle.codec.specs.Codec.{refusal, named, checked, ◌then◌}
use Rattle.codec.proofs.StepLaws.{byte_got}
use Rattle.held.specs.Held.{bounded, within, held_of}
use Rattle.held.proofs.StageLaws.{HeadLaw, stage-said, refused_needs, whole_needs, refused-whole}
use Rattle.held.specs.declared.Holding.{Holding}
use Rattle.held.specs.declared.Holding.TheVariants.{Needs, Whole}
use Rattle.frames.specs.Frames.{is_length, header, said, header_of, frame}

-- what the two bytes say
abbrev pub told : Bool → ℕ → ℕ → Result Holding Refusal
told b w t = cond b (Ok (Whole (4 * w) t)) (Err (refusal 100 0))

-- fewer than sixteen bytes
pub header-few : (s : List ℕ) → length s < 16 → header_of s ≡ Ok (Needs (16 - length s))
unfolding header_of
header-few s h = simp (lt-ltb _ _ h)

module _ (s : List ℕ) (h : 16 ≤ length s) where
  read_is : (b : Bool) → is_length (get_or s 0 0) ≡ b → said (header.codec.parse 0 s 0) ≡ told b (get_or s 0 0) (get_or s 1 0)
  unfolding header named ◌then◌ checked
  read_is false q = simp (byte_got 100 0 s 0 (omega arith), q)
  read_is true q = simp (byte_got 100 0 s 0 (omega arith), q, byte_got 100 0 s 1 (omega arith))

  -- THE VERDICT ON SIXTEEN BYTES, or more
  pub header_is : header_of s ≡ told (is_length (get_or s 0 0)) (get_or s 0 0) (get_or s 1 0)
  unfolding header_of
  header_is = simp (le-ltb _ _ h) (read_is (is_length (get_or s 0 0)) refl)

-- bytes past the sixteenth are not looked at
pub header-first : (s : List ℕ) → 16 ≤ length s → header_of s ≡ header_of (take 16 s)
header-first s h =
    let at : (i : ℕ) → i < 16 → get_or (take 16 s) i 0 ≡ get_or s i 0 = λ i g. get_or-take 16 s i 0 g in
    header_is s h ∙ sym (header_is (take 16 s) (omega (arith, length-take-le 16 s h)) ∙ simp (at 0 (omega arith), at 1 (omega arith)))

told-never : (b : Bool) (w t n : ℕ) → told b w t ≡ Ok (Needs n) → ⊥
told-never false w t n q = refused_needs _ n q
told-never true w t n q = whole_needs (4 * w) t n q

-- sixteen bytes never need more
pub header-never : (s : List ℕ) (n : ℕ) → 16 ≤ length s → header_of s ≡ Ok (Needs n) → ⊥
header-never s n h e = told-never (is_length (get_or s 0 0)) (get_or s 0 0) (get_or s 1 0) n (sym (header_is s h) ∙ e)

-- the header keeps the laws of heads
pub frame-law : HeadLaw frame
frame-law = record { some = omega arith; few = header-few; first = header-first; never = header-never }

-- WHAT A FRAME IS: four bytes for each that its first byte counts, 16 at least; its second byte is the rtype
pub record IsFrame (s : List ℕ) (w t : ℕ) : Type 0 where
  pub long : 16 ≤ w
  pub words : w ≡ 4 * get_or s 0 0
  pub rtype : t ≡ get_or s 1 0

told-frame : (b : Bool) (s : List ℕ) (w t : ℕ) → is_length (get_or s 0 0) ≡ b → told b (get_or s 0 0) (get_or s 1 0) ≡ Ok (Whole w t) → IsFrame s w t
told-frame false s w t q e = absurd (refused-whole _ w t e)
told-frame true s w t q e =
    let l = leb-true 16 (4 * get_or s 0 0) q in
    let a : 4 * get_or s 0 0 ≡ w = cc in
    let b : get_or s 1 0 ≡ t = cc in
    record { long = omega arith; words = sym a; rtype = sym b }

-- so it is where a header announces one
pub is-frame : (s : List ℕ) (w t : ℕ) → 16 ≤ length s → header_of s ≡ Ok (Whole w t) → IsFrame s w t
is-frame s w t h e = told-frame (is_length (get_or s 0 0)) s w t refl (sym (header_is s h) ∙ e)

-- and a header announces one where its first byte counts 16 bytes or more
pub frame_is : (s : List ℕ) → 16 ≤ length s → 16 ≤ 4 * get_or s 0 0 → header_of s ≡ Ok (Whole (4 * get_or s 0 0) (get_or s 1 0))
frame_is s h g = header_is s h ∙ ap (λ b. told b (get_or s 0 0) (get_or s 1 0)) (le-leb 16 (4 * get_or s 0 0) g)

-- it is refused by 100 alone, where it counts fewer
pub frame-bad : (s : List ℕ) → 16 ≤ length s → 4 * get_or s 0 0 < 16 → header_of s ≡ Err (refusal 100 0)
frame-bad s h g = header_is s h ∙ ap (λ b. told b (get_or s 0 0) (get_or s 1 0)) (lt-leb 16 (4 * get_or s 0 0) g)

-- ---- sixteen bytes held, or more

module _ (k : ℕ) (st : List ℕ) (many : 16 ≤ k) (room : k ≤ length st) where
  -- a length below 16 bytes
  pub bad-held : 4 * get_or st 0 0 < 16 → held_of frame k st ≡ Err (refusal 100 0)
  bad-held g =
      stage-said frame frame-law k st many room
      ∙ ap (within 101 (length st) k) (sym (header-first st (omega arith)) ∙ frame-bad st (omega arith) g)

  -- any other
  pub good-held : 16 ≤ 4 * get_or st 0 0 → held_of frame k st ≡ bounded 101 (length st) k (4 * get_or st 0 0) (get_or st 1 0)
  good-held g =
      stage-said frame frame-law k st many room
      ∙ ap (within 101 (length st) k) (sym (header-first st (omega arith)) ∙ frame_is st (omega arith) g)
