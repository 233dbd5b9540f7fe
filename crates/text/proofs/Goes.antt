-- Laws of `goes`: one byte of a slice, a stretch of bytes below 128, and a letter of two bytes.
-- Assumes nothing.
use mathlib.Core.Path.{◌≡◌, ◌∙◌, refl, sym, ap, subst}
use mathlib.Core.Bool.{Bool, true, false, ◌&&◌}
use mathlib.Core.List.{List, []}
use mathlib.Core.Option.{some}
use Prim.Native.Nat.{ℕ, zero, suc, ◌+◌, ◌-◌, ◌<◌, ◌≤◌}
use native.Mathlib.Nat.{add-zero}
use native.Mathlib.Numerals.{add-one}
use native.Mathlib.Omega.{arith}
use native.Mathlib.Decide.{dec_lt}
use borrow.Author.Tests.{le-leb, lt-leb, leb-true, lt-ltb, le-ltb}
use lib.Dec.{T, leb→le, leb, ltb, leb-zero}
use lib.ListN.{length, drop, get_or}
use lib.Seq.{drop-cons, drop-length}
use Rattle.codec.specs.Every.{both, both_left}
use Rattle.text.specs.Utf8.{◌to◌, within, Expect, step, goes}
use Rattle.text.specs.AndLaws.{and_left, and_right}
use Rattle.text.specs.Letters.{letter, letter_at}
use Rattle.text.specs.Runs.{Below, Skipped}

pub goes_one : (e : Expect) (s : List ℕ) (i : ℕ) → i < length s → goes e (drop i s) ≡ goes (step e (get_or s i 0)) (drop (i + 1) s)
goes_one e s i h = rw (add-one, drop-cons s i 0)

-- a byte below 128 is a row by itself
low_step : (b : ℕ) → b < 128 → step (some []) b ≡ some []
low_step b h = simp (leb-zero b, le-leb b 127 (omega arith))

pub goes-low-one : (s : List ℕ) (i : ℕ) → i < length s → get_or s i 0 < 128 → goes (some []) (drop i s) ≡ goes (some []) (drop (i + 1) s)
goes-low-one s i h low = goes_one (some []) s i h ∙ ap (λ (e : Expect). goes e (drop (i + 1) s)) (low_step (get_or s i 0) low)

goes-low : (s : List ℕ) (i m : ℕ) → i + m ≤ length s → Below 128 s i (i + m) → goes (some []) (drop i s) ≡ goes (some []) (drop (i + m) s)
goes-low s i zero le low = rw add-zero
goes-low s i (suc m) le low =
    let next : i + m + 1 ≡ i + suc m = omega arith in
    goes-low s i m (omega arith) (λ k lo hi. low k lo (omega arith))
    ∙ goes-low-one s (i + m) (omega arith) (low (i + m) (omega arith) (omega arith))
    ∙ ap (λ (k : ℕ). goes (some []) (drop k s)) next

pub goes_upto : (s : List ℕ) (i e : ℕ) → i ≤ e → e ≤ length s → Below 128 s i e → goes (some []) (drop i s) ≡ goes (some []) (drop e s)
goes_upto s i e le lt low =
    let there : i + (e - i) ≡ e = omega arith in
    rw there at (goes-low s i (e - i) (omega arith) (λ k lo hi. low k lo (omega arith)))

pub goes-skipped : (s : List ℕ) (i r : ℕ) → Skipped s i r → goes (some []) (drop i s) ≡ goes (some []) (drop r s)
goes-skipped s i r h = goes_upto s i r h.on h.within h.low

-- all that is left is below 128
pub goes_end : (s : List ℕ) (i : ℕ) → i ≤ length s → Below 128 s i (length s) → true ≡ goes (some []) (drop i s)
goes_end s i le low = sym (rw drop-length at (goes_upto s i (length s) le (omega arith) low))

-- ---- a letter of two bytes
letter-step : (a b : ℕ) → letter a b ≡ true → step (step (some []) a) b ≡ some []
letter-step a b h =
    let lead = and_left (within a (0xC2 to 0xDF)) (within b (0x80 to 0xBF)) h in
    let least : 194 ≤ a = leb→le 194 a (both_left (leb 194 a) (leb a 223) (subst T (sym lead) tt)) in
    rw (lt-leb a 127 (omega arith), leb-zero a, lead, and_right (within a (0xC2 to 0xDF)) (within b (0x80 to 0xBF)) h)

-- the bytes after one that stands at i are judged as those from it on
pub goes-letter : (s : List ℕ) (i : ℕ) → letter_at s i ≡ true → (i + 2 ≤ length s) × (goes (some []) (drop i s) ≡ goes (some []) (drop (i + 2) s))
goes-letter s i h =
    let a = get_or s i 0 in
    let b = get_or s (i + 1) 0 in
    let room : 2 ≤ length s - i = leb-true 2 (length s - i) (and_left (leb 2 (length s - i)) (letter a b) h) in
    let place : i + 1 + 1 ≡ i + 2 = omega arith in
    let done = letter-step a b (and_right (leb 2 (length s - i)) (letter a b) h) in (
      omega arith,
      goes_one (some []) s i (omega arith)
          ∙ goes_one (step (some []) a) s (i + 1) (omega arith)
          ∙ rw place (ap (λ (e : Expect). goes e (drop (i + 2) s)) done),
    )

ltb-leb : (a n : ℕ) → ltb a (suc n) ≡ leb a n
ltb-leb a n = elim (dec_lt a (suc n)) [ yes l ↦ lt-ltb a (suc n) l ∙ sym (le-leb a n (omega arith)) | no g ↦ le-ltb a (suc n) (omega arith) ∙ sym (lt-leb a n (omega arith)) ]

-- the four ends of the two ranges
pub letter-is : (a b : ℕ) → (((leb 194 a && ltb a 224) && leb 128 b) && ltb b 192) ≡ letter a b
letter-is a b = rw (ltb-leb a 223, ltb-leb b 191) (go (leb 194 a) (leb a 223) (leb 128 b) (leb b 191))
  where
    go : (x y z w : Bool) → (((x && y) && z) && w) ≡ (both x y && both z w)
    go true true true w = refl
    go true true false w = refl
    go true false z w = refl
    go false y z w = refl
