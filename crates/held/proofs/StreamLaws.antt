-- What stands first in a stream, and that one call that is given all of it finds that. Assumes nothing.
use Rattle.refusal.specs.declared.Refusal.{Refusal}
use Rattle.std.specs.Prelude.{ℕ, ◌-◌, ◌≤◌, ◌<◌, ◌≡◌, refl, List, length, take, Result, Ok, Err}
use Rattle.std.proofs.Common.{arith, sym, ap, ◌∙◌, lt-ltb, le-ltb}
use Rattle.codec.specs.Codec.{refusal}
use Rattle.codec.specs.CaseLaws.{by_le}
use Rattle.held.specs.Held.{Head, fits, first_of, refused_at}
use Rattle.held.proofs.StageLaws.{HeadLaw, refused-whole, whole_needs}
use Rattle.held.proofs.AloneLaws.{Alone, alone-small, alone-few, alone-refused, alone-short, alone_rest, alone-whole}
use Rattle.held.specs.declared.Holding.{Holding}
use Rattle.held.specs.declared.Holding.TheVariants.{Needs, Whole}

-- a whole has its head in it
abbrev pub Long : Head → Type 0
Long H = (s : List ℕ) (w b : ℕ) → H.size ≤ length s → H.says s ≡ Ok (Whole w b) → H.size ≤ w

module _ (H : Head) (n : ℕ) (s : List ℕ) where
  pub first_small : n < H.size → first_of H n s ≡ Err (refusal H.short 0)
  unfolding first_of
  first_small h = simp (lt-ltb _ _ h)

  pub first_fits : H.size ≤ n → first_of H n s ≡ fits H.short n (length s) (H.says s)
  unfolding first_of
  first_fits h = simp (le-ltb _ _ h)

  fits_whole : (x : Result Holding Refusal) (w b : ℕ) → H.says s ≡ x → fits H.short n (length s) x ≡ Ok (Whole w b) → (H.says s ≡ Ok (Whole w b)) × (w ≤ length s)
  fits_whole (Ok (Needs m)) w b q e = absurd (whole_needs w b m (sym e))
  fits_whole (Err m) w b q e = absurd (refused-whole m w b e)
  fits_whole (Ok (Whole v u)) w b q e =
      by_le v n
      (λ a.
      by_le v (length s)
      (λ c.
      let z : Ok (Whole v u) ≡ Ok (Whole w b) = simp (le-ltb n v a, le-ltb (length s) v c) at e in
      let i : v ≡ w = cc in
      (q ∙ z, omega arith))
      (λ c. absurd (whole_needs w b (v - length s) (sym (simp (le-ltb n v a, lt-ltb (length s) v c) at e)))))
      (λ a. absurd (refused-whole (refusal H.short 0) w b (simp (lt-ltb n v a) at e)))

  -- a whole that stands first is there, as the head says, and has its head in it
  pub first-whole : HeadLaw H → Long H → (w b : ℕ) → first_of H n s ≡ Ok (Whole w b) → (H.size ≤ w) × (w ≤ length s) × (H.says s ≡ Ok (Whole w b))
  first-whole L long w b e =
      by_le H.size n
      (λ h.
      let (q, c) = fits_whole (H.says s) w b refl (sym (first_fits h) ∙ e) in
      by_le H.size (length s)
      (λ g. (long s w b g q, c, q))
      (λ g. absurd (whole_needs w b _ (sym q ∙ L.few s g))))
      (λ h. absurd (refused-whole (refusal H.short 0) w b (sym (first_small h) ∙ e)))

-- ---- one call, given all of a stream

-- how many bytes are then held
abbrev pub Count : Head → ℕ → List ℕ → ℕ → Result Holding Refusal → Type 0
Count H room s n (Ok (Needs j)) = n ≡ length s
Count H room s n (Err e) = n ≡ refused_at H room
Count H room s n (Ok (Whole w b)) = n ≡ w

-- a call from the start finds x: so many bytes are taken, they stand at the front of the store, and they are what stands first
pub record Found (H : Head) (st s : List ℕ) : Type 0 where
  pub taken : ℕ
  pub is : Result Holding Refusal
  pub first : first_of H (length st) s ≡ is
  pub alone : Alone H st s taken is
  pub count : Count H (length st) s taken is

module _ (H : Head) (L : HeadLaw H) (long : Long H) (st s : List ℕ) where
  found : (n : ℕ) (x : Result Holding Refusal) → Alone H st s n x → Count H (length st) s n x → first_of H (length st) s ≡ x → Found H st s
  found n x a c e = record { taken = n; is = x; first = e; alone = a; count = c }

  refused-at : H.size ≤ length st → H.size ≡ refused_at H (length st)
  refused-at h = simp (le-ltb (length st) H.size h)

  module _ (room : H.size ≤ length st) (many : H.size ≤ length s) where
    says : (x : Result Holding Refusal) → H.says s ≡ x → H.says (take H.size s) ≡ x
    says x q = sym (L.first s many) ∙ q

    found-whole : (w b : ℕ) → H.says s ≡ Ok (Whole w b) → Found H st s
    found-whole w b q =
        let f : first_of H (length st) s ≡ fits H.short (length st) (length s) (Ok (Whole w b)) = first_fits H (length st) s room ∙ ap (fits H.short (length st) (length s)) q in
        let l : H.size ≤ w = long s w b many q in
        by_le w (length st)
        (λ a.
        by_le w (length s)
        (λ c.
        found w (Ok (Whole w b)) (alone-whole H L st s room many w b (says _ q) a l c) refl (f ∙ simp (le-ltb (length st) w a, le-ltb (length s) w c)))
        (λ c.
        found (length s) (Ok (Needs (w - length s))) (alone_rest H L st s room many w b (says _ q) a l c) refl
        (f ∙ simp (le-ltb (length st) w a, lt-ltb (length s) w c))))
        (λ a.
        found H.size (Err (refusal H.short 0)) (alone-short H L st s room many w b (says _ q) a) (refused-at room) (f ∙ simp (lt-ltb (length st) w a)))

    found-head : (x : Result Holding Refusal) → H.says s ≡ x → Found H st s
    found-head (Ok (Needs m)) q = absurd (L.never s m many q)
    found-head (Err e) q =
        found H.size (Err e) (alone-refused H L st s room many e (says _ q)) (refused-at room) (first_fits H (length st) s room ∙ ap (fits H.short (length st) (length s)) q)
    found-head (Ok (Whole w b)) q = found-whole w b q

  -- ONE CALL FROM THE START FINDS WHAT STANDS FIRST
  pub finds_first : Found H st s
  finds_first =
      by_le H.size (length st)
      (λ room.
      by_le H.size (length s)
      (λ many. found-head room many (H.says s) refl)
      (λ few.
      found (length s) _ (alone-few H L st s room few) refl (first_fits H (length st) s room ∙ ap (fits H.short (length st) (length s)) (L.few s few))))
      (λ small. found 0 _ (alone-small H L st s small) (simp (lt-ltb (length st) H.size small)) (first_small H (length st) s small))
