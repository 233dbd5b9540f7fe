-- The frames of a stream, one at a time: what stands first, then the frames of the rest. And one call that is given all of a stream finds
-- what stands first. Assumes nothing.
use Rattle.refusal.specs.declared.Refusal.{Refusal}
use Rattle.std.specs.Prelude.{ℕ, zero, suc, ◌-◌, ◌≤◌, ◌<◌, ◌≡◌, refl, List, [], length, take, drop, Result, Ok, Err}
use Rattle.std.proofs.Common.{arith, ◌∙◌, lt-ltb, le-ltb, length-drop, take_all}
use Rattle.std.proofs.Math.Path.{sym, ap, ap₂}
use Rattle.codec.specs.Codec.{refusal}
use Rattle.codec.specs.CaseLaws.{by_le}
use Rattle.held.specs.Held.{held_of, taken_of, held_after, store_after}
use Rattle.held.proofs.AloneLaws.{Alone, alone-small, alone-few, alone-refused, alone-short, alone_rest, alone-whole}
use Rattle.held.proofs.StageLaws.{refused-whole, whole_needs, after-length}
use Rattle.held.specs.declared.Holding.{Holding}
use Rattle.held.specs.declared.Holding.TheVariants.{Needs, Whole}
use Rattle.frames.specs.Frames.{header_of, frame, fits, first_of, Frames, ◌before◌, refused_at, goes_on, frames_in, frames_of}
use Rattle.frames.proofs.HeaderLaws.{frame-law, header-few, header-first, header-never, is-frame}

-- ---- what stands first

module _ (n : ℕ) (s : List ℕ) where
  pub first_small : n < 16 → first_of n s ≡ Err (refusal 101 0)
  unfolding first_of
  first_small h = simp (lt-ltb _ _ h)

  pub first_fits : 16 ≤ n → first_of n s ≡ fits n (length s) (header_of s)
  unfolding first_of
  first_fits h = simp (le-ltb _ _ h)

  fits_whole : (x : Result Holding Refusal) (w t : ℕ) → header_of s ≡ x → fits n (length s) x ≡ Ok (Whole w t) → (header_of s ≡ Ok (Whole w t)) × (w ≤ length s) × (w ≤ n)
  fits_whole (Ok (Needs m)) w t q e = absurd (whole_needs w t m (sym e))
  fits_whole (Err m) w t q e = absurd (refused-whole m w t e)
  fits_whole (Ok (Whole v u)) w t q e =
      by_le v n
      (λ a.
      by_le v (length s)
      (λ b.
      let z : ◌≡◌ {A = Result Holding Refusal} (Ok (Whole v u)) (Ok (Whole w t)) = simp (le-ltb n v a, le-ltb (length s) v b) at e in
      let i : v ≡ w = cc in
      (q ∙ z, omega arith, omega arith))
      (λ b. absurd (whole_needs w t (v - length s) (sym (simp (le-ltb n v a, lt-ltb (length s) v b) at e)))))
      (λ a. absurd (refused-whole (refusal 101 0) w t (simp (lt-ltb n v a) at e)))

  -- a frame that stands first has 16 bytes or more, and is there
  pub first-whole : (w t : ℕ) → first_of n s ≡ Ok (Whole w t) → (16 ≤ w) × (w ≤ length s) × (header_of s ≡ Ok (Whole w t))
  first-whole w t e =
      by_le 16 n
      (λ h.
      let (q, b, a) = fits_whole (header_of s) w t refl (sym (first_fits h) ∙ e) in
      by_le 16 (length s)
      (λ g. ((is-frame s w t g q).long, b, q))
      (λ g. absurd (whole_needs w t _ (sym q ∙ header-few s g))))
      (λ h. absurd (refused-whole (refusal 101 0) w t (sym (first_small h) ∙ e)))

-- ---- more steps than frames change nothing

enough : (a b n : ℕ) (s : List ℕ) → length s < a → length s < b → frames_in a n s ≡ frames_in b n s
unfolding frames_in
enough zero b n s h g = absurd (omega arith)
enough (suc a) zero n s h g = absurd (omega arith)
enough (suc a) (suc b) n s h g = step (enough a b n) (first_of n s) refl
  where
    step : ((r : List ℕ) → length r < a → length r < b → frames_in a n r ≡ frames_in b n r) → (x : Result Holding Refusal) → first_of n s ≡ x
        → goes_on n s (frames_in a n) (first_of n s) ≡ goes_on n s (frames_in b n) (first_of n s)
    step again (Ok (Needs j)) e = rw e
    step again (Err j) e = rw e
    step again (Ok (Whole w t)) e =
        let (long, there, _) = first-whole n s w t e in
        rw e (ap (λ r. take w s before r) (again (drop w s) (omega (arith, length-drop w s)) (omega (arith, length-drop w s))))

-- A STREAM IS WHAT STANDS FIRST, then the frames of the rest
pub frames-step : (n : ℕ) (s : List ℕ) → frames_of n s ≡ goes_on n s (frames_of n) (first_of n s)
unfolding frames_of frames_in
frames-step n s = step (first_of n s) refl
  where
    step : (x : Result Holding Refusal) → first_of n s ≡ x → frames_of n s ≡ goes_on n s (frames_of n) x
    step (Ok (Needs j)) e = rw e
    step (Err j) e = rw e
    step (Ok (Whole w t)) e =
        let (long, there, _) = first-whole n s w t e in
        rw e (ap (λ r. take w s before r) (enough (length s) (suc (length (drop w s))) n (drop w s) (omega (arith, length-drop w s)) (omega arith)))

-- ---- one call, given all of a stream

-- how the frames go on where x is held afterwards: k bytes of the store, of which `taken` came now
abbrev pub goes_after : ℕ → List ℕ → ℕ → List ℕ → Result Holding Refusal → Frames
goes_after k st taken s (Ok (Needs j)) = record { whole = []; left = take k st; ends = Ok (Needs j) }
goes_after k st taken s (Err e) = record { whole = []; left = take k st; ends = Err e }
goes_after k st taken s (Ok (Whole w t)) = take w st before frames_of (length st) (drop taken s)

-- the frames of a stream of which k bytes are held already: one call with all that comes, then the frames of the rest
unfoldable pub frames_from : ℕ → List ℕ → List ℕ → Frames
frames_from k st s =
    goes_after (held_after frame k st s) (store_after frame k st s) (taken_of frame k st s) s (held_of frame (held_after frame k st s) (store_after frame k st s))

-- how many bytes are then held
abbrev Count : ℕ → List ℕ → ℕ → Result Holding Refusal → Type 0
Count room s n (Ok (Needs j)) = n ≡ length s
Count room s n (Err e) = n ≡ refused_at room
Count room s n (Ok (Whole w t)) = n ≡ w

module _ (st s : List ℕ) where
  goes_alone : (n : ℕ) (x : Result Holding Refusal) → Alone frame st s n x → Count (length st) s n x
      → goes_after n (store_after frame 0 st s) n s x ≡ goes_on (length st) s (frames_of (length st)) x
  goes_alone n (Ok (Needs j)) a c = ap (λ l. record { whole = []; left = l; ends = Ok (Needs j) }) (a.front ∙ take_all n s (omega arith))
  goes_alone n (Err e) a c = ap (λ l. record { whole = []; left = l; ends = Err e }) (a.front ∙ ap (λ m. take m s) c)
  goes_alone n (Ok (Whole w t)) a c =
      ap₂ (λ f r. f before r) (sym (ap (λ m. take m (store_after frame 0 st s)) c) ∙ a.front ∙ ap (λ m. take m s) c)
      (ap₂ frames_of (after-length frame frame-law 0 st s) (ap (λ m. drop m s) c))

  found : (n : ℕ) (x : Result Holding Refusal) → Alone frame st s n x → Count (length st) s n x → first_of (length st) s ≡ x → frames_from 0 st s ≡ frames_of (length st) s
  unfolding frames_from
  found n x a c e =
      ap₂ (λ k m. goes_after k (store_after frame 0 st s) m s (held_of frame k (store_after frame 0 st s))) a.held a.taken
      ∙ ap (goes_after n (store_after frame 0 st s) n s) a.stage
      ∙ goes_alone n x a c
      ∙ sym (frames-step (length st) s ∙ ap (goes_on (length st) s (frames_of (length st))) e)

  refused-at : 16 ≤ length st → 16 ≡ refused_at (length st)
  refused-at h = simp (le-ltb (length st) 16 h)

  module _ (room : 16 ≤ length st) (many : 16 ≤ length s) where
    says : (x : Result Holding Refusal) → header_of s ≡ x → header_of (take 16 s) ≡ x
    says x q = sym (header-first s many) ∙ q

    found-frame : (w t : ℕ) → header_of s ≡ Ok (Whole w t) → frames_from 0 st s ≡ frames_of (length st) s
    found-frame w t q =
        let f : first_of (length st) s ≡ fits (length st) (length s) (Ok (Whole w t)) = first_fits (length st) s room ∙ ap (fits (length st) (length s)) q in
        let long : 16 ≤ w = (is-frame s w t many q).long in
        by_le w (length st)
        (λ a.
        by_le w (length s)
        (λ b.
        found w (Ok (Whole w t)) (alone-whole frame frame-law st s room many w t (says _ q) a long b) refl (f ∙ simp (le-ltb (length st) w a, le-ltb (length s) w b)))
        (λ b.
        found (length s) (Ok (Needs (w - length s))) (alone_rest frame frame-law st s room many w t (says _ q) a long b) refl
        (f ∙ simp (le-ltb (length st) w a, lt-ltb (length s) w b))))
        (λ a.
        found 16 (Err (refusal 101 0)) (alone-short frame frame-law st s room many w t (says _ q) a) (refused-at room) (f ∙ simp (lt-ltb (length st) w a)))

    found-header : (x : Result Holding Refusal) → header_of s ≡ x → frames_from 0 st s ≡ frames_of (length st) s
    found-header (Ok (Needs m)) q = absurd (header-never s m many q)
    found-header (Err e) q =
        found 16 (Err e) (alone-refused frame frame-law st s room many e (says _ q)) (refused-at room) (first_fits (length st) s room ∙ ap (fits (length st) (length s)) q)
    found-header (Ok (Whole w t)) q = found-frame w t q

  -- ONE CALL FROM THE START FINDS WHAT STANDS FIRST
  pub from_start : frames_from 0 st s ≡ frames_of (length st) s
  from_start =
      by_le 16 (length st)
      (λ room.
      by_le 16 (length s)
      (λ many. found-header room many (header_of s) refl)
      (λ few.
      found (length s) _ (alone-few frame frame-law st s room few) refl (first_fits (length st) s room ∙ ap (fits (length st) (length s)) (header-few s few))))
      (λ small. found 0 _ (alone-small frame frame-law st s small) (simp (lt-ltb (length st) 16 small)) (first_small (length st) s small))
