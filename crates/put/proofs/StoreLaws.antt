-- Single stores, and what comes first of a slice and of a number's bytes.
-- Assumes nothing.
use Prim.Native.Nat.{ℕ, zero, suc, ◌+◌, ◌-◌, ◌/◌, ◌%◌, ◌≤◌, ◌<◌}
use native.Mathlib.Numerals.{add-one}
use native.Mathlib.Omega.{arith}
use mathlib.Core.Path.{◌≡◌, refl, ap}
use mathlib.Core.List.{List, [], ◌∷◌, ◌++◌}
use lib.ListN.{length, drop, set, get_or, length-set, drop_of_length-le, replicate}
use lib.Seq.{set_split, drop-cons}
use Rattle.codec.specs.Codec.{little}
use Rattle.put.specs.Output.{put, RoomFor, Wrote}
use Rattle.put.specs.OutputLaws.{wrote_then}

put-set : (at : ℕ) (v : ℕ) (o : List ℕ) → at < length o → set o at v ≡ put at (v ∷ []) o
unfolding put
put-set at v o h = rw (add-one, set_split)

-- one store, and the place after it
wrote_one : {at v : ℕ} {o : List ℕ} {r : ℕ} → at < length o → r ≡ at + 1 → Wrote at (v ∷ []) o (set o at v) r
wrote_one {at} {v} {o} h e = record { room = omega arith; next = e; bytes = put-set at v o h }

pub wrote-set : {at v : ℕ} {o : List ℕ} → RoomFor at (v ∷ []) o → Wrote at (v ∷ []) o (set o at v) (at + 1)
wrote-set h = wrote_one (omega (arith, h.fits)) refl

-- four stores
pub wrote-four : {at a b c d : ℕ} {o : List ℕ} → RoomFor at (a ∷ b ∷ c ∷ d ∷ []) o → Wrote at (a ∷ b ∷ c ∷ d ∷ []) o (set (set (set (set o at a) (at + 1) b) (at + 2) c) (at + 3) d) (at + 4)
wrote-four {at} h =
    wrote_then (wrote_one {r = at + 1} (omega (arith, h.fits)) refl)
    (wrote_then (wrote_one {r = at + 2} (simp length-set (omega (arith, h.fits))) (omega arith))
    (wrote_then (wrote_one {r = at + 3} (simp length-set (omega (arith, h.fits))) (omega arith))
    (wrote_one {r = at + 4} (simp length-set (omega (arith, h.fits))) (omega arith))))

-- ---- what comes first

pub drop-next : (xs : List ℕ) (j : ℕ) → j < length xs → drop j xs ≡ (get_or xs j 0 ∷ []) ++ drop (j + 1) xs
drop-next xs j h = rw (add-one, drop-cons xs j 0)

pub drop-next-four : (xs : List ℕ) (j : ℕ) → j + 4 ≤ length xs → drop j xs ≡ (get_or xs j 0 ∷ get_or xs (j + 1) 0 ∷ get_or xs (j + 2) 0 ∷ get_or xs (j + 3) 0 ∷ []) ++ drop (j + 4) xs
drop-next-four xs j h =
    let two : j + 1 + 1 ≡ j + 2 = omega arith in
    let three : j + 2 + 1 ≡ j + 3 = omega arith in
    let four : j + 3 + 1 ≡ j + 4 = omega arith in
    rw (drop-next xs j (omega arith), drop-next xs (j + 1) (omega arith), two, drop-next xs (j + 2) (omega arith), three, drop-next xs (j + 3) (omega arith), four)

pub drop-last-four : (xs : List ℕ) (j : ℕ) → j + 4 ≡ length xs → drop j xs ≡ get_or xs j 0 ∷ get_or xs (j + 1) 0 ∷ get_or xs (j + 2) 0 ∷ get_or xs (j + 3) 0 ∷ []
drop-last-four xs j h =
    let e : length xs ≤ j + 4 = omega (arith, h) in
    rw (drop_of_length-le xs e) at (drop-next-four xs j (omega (arith, h)))

pub little-next : (w v : ℕ) → 0 < w → little w v ≡ (v % 256 ∷ []) ++ little (w - 1) (v / 256)
little-next zero v h = absurd (omega arith)
little-next (suc w) v h =
    let e : w ≡ suc w - 1 = omega arith in
    ap (λ (j : ℕ). v % 256 ∷ little j (v / 256)) e

pub little-none : (w v : ℕ) → w ≤ 0 → little w v ≡ []
little-none zero v h = refl
little-none (suc w) v h = absurd (omega arith)

pub little-zeros : (w : ℕ) → little w 0 ≡ replicate w 0
little-zeros zero = refl
little-zeros (suc w) = ap (λ (l : List ℕ). 0 ∷ l) (little-zeros w)
