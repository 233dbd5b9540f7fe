-- Words added to check words: one at a time without reducing, and part by part.
-- Assumes nothing.
use Rattle.std.proofs.Common.{ℕ, zero, suc, ◌+◌, ◌*◌, ◌/◌, ◌%◌, ◌≤◌, ◌<◌, min, ◌≡◌, refl, sym, ap, ap₂, ◌∙◌, List, [], ◌∷◌, ◌++◌, length, get_or, take, drop, arith, zero-add, add-zero, add_assoc, mod-eq_of_lt, drop-cons}
use native.Mathlib.Nat.{add-mod, mod-mod}
use lib.ListN.{drop_of_length-le}
use Rattle.std.specs.Simd.{first_chunks}
use Rattle.std.proofs.lemmas.List.{nil_from_length, get_or-drop, get_or-take, drop-drop}
use Rattle.sums.specs.Sums.{words, sum, running, check_a, check_b, sums_of, reduced, sums_from}
use Rattle.sums.specs.declared.Sums.{Sums}

-- words of an even number of bytes, or of all, and those of the rest
words-append : (u v : List ℕ) (k : ℕ) → length u ≡ min (2 * k) (length (u ++ v)) → words (u ++ v) ≡ words u ++ words v
unfolding words
words-append [] v k e = refl
words-append (x ∷ []) [] k e = refl
words-append (x ∷ []) (y ∷ v) k e = absurd (omega arith)
words-append (x ∷ y ∷ u) v zero e = absurd (omega arith)
words-append (x ∷ y ∷ u) v (suc k) e = rw (words-append u v k (omega arith))

-- ---- one part

words-two : (s : List ℕ) (j : ℕ) → j + 1 < length s → words (drop j s) ≡ (get_or s j 0 + 256 * get_or s (j + 1) 0) ∷ words (drop (j + 2) s)
unfolding words
words-two s j h =
    let p : j < length s = omega arith in
    let q : suc j < length s = omega arith in
    let e : j + 1 ≡ suc j = omega arith in
    let f : j + 2 ≡ suc (suc j) = omega arith in
    rw (e, f, drop-cons s j 0 p, drop-cons s (suc j) 0 q)

words-one : (s : List ℕ) (j : ℕ) → j < length s → length s ≤ j + 1 → words (drop j s) ≡ get_or s j 0 ∷ []
unfolding words
words-one s j h g =
    let q : length s ≤ suc j = omega arith in
    rw (drop-cons s j 0 h, drop_of_length-le s q)

words-none : (s : List ℕ) (j : ℕ) → length s ≤ j → words (drop j s) ≡ []
unfolding words
words-none s j h = rw (drop_of_length-le s h)

-- Of the words of s, which are to be added to a and b, those from byte j on are left; x and y are the sums so far, not reduced.
pub record Adding (a b : ℕ) (s : List ℕ) (x y j : ℕ) : Type 0 where
  pub within : j ≤ length s
  pub x-small : x ≤ 65535 + 65535 * j
  pub y-small : y ≤ 65535 + 33422850 * j
  pub x-same : x + sum (words (drop j s)) ≡ a + sum (words s)
  pub y-same : y + sum (running x (words (drop j s))) ≡ b + sum (running a (words s))

pub adding_start : (a b : ℕ) (s : List ℕ) → a < 65535 → b < 65535 → Adding a b s a b 0
adding_start a b s p q = record { within = omega arith; x-small = omega arith; y-small = omega arith; x-same = refl; y-same = refl }

module _ {a b : ℕ} {s : List ℕ} {x y j : ℕ} (l : Adding a b s x y j) where
  -- a word w is added, and the words ws are left
  x-next : (w : ℕ) (ws : List ℕ) → words (drop j s) ≡ w ∷ ws → x + w + sum ws ≡ a + sum (words s)
  unfolding sum
  x-next w ws e = rw (add_assoc x w) (rw e at l.x-same)

  y-next : (w : ℕ) (ws : List ℕ) → words (drop j s) ≡ w ∷ ws → y + (x + w) + sum (running (x + w) ws) ≡ b + sum (running a (words s))
  unfolding sum running
  y-next w ws e = rw (add_assoc y (x + w)) (rw e at l.y-same)

  pub adding_two : get_or s j 0 < 256 → get_or s (j + 1) 0 < 256 → length s ≤ 508 → j + 1 < length s
      → Adding a b s (x + (get_or s j 0 + 256 * get_or s (j + 1) 0)) (y + (x + (get_or s j 0 + 256 * get_or s (j + 1) 0))) (j + 2)
  adding_two p q long h = record {
    within = omega arith;
    x-small = omega (arith, l.x-small);
    y-small = omega (arith, l.x-small, l.y-small);
    x-same = x-next _ _ (words-two s j h);
    y-same = y-next _ _ (words-two s j h);
  }

  pub adding_one : j < length s → length s ≤ j + 1 → reduced (x + get_or s j 0) (y + (x + get_or s j 0)) ≡ sums_from a b (words s)
  unfolding sums_from sum running
  adding_one h g =
      let e = words-one s j h g in
      ap₂ (λ m n. reduced m n) (sym (add-zero _) ∙ x-next (get_or s j 0) [] e) (sym (add-zero _) ∙ y-next (get_or s j 0) [] e)

  pub adding_none : length s ≤ j → reduced x y ≡ sums_from a b (words s)
  unfolding sums_from sum running
  adding_none h =
      let e = words-none s j h in
      ap₂ (λ m n. reduced m n) (sym (add-zero _) ∙ (rw e at l.x-same)) (sym (add-zero _) ∙ (rw e at l.y-same))

-- pair i of the first n
pair-at : (n i : ℕ) (s : List ℕ) → i < n → get_or (first_chunks 2 n s) i [] ≡ take 2 (drop (2 * i) s)
pair-at zero i s h = absurd (omega arith)
pair-at (suc n) zero s h = refl
pair-at (suc n) (suc i) s h = pair-at n i (drop 2 s) (omega arith) ∙ ap (λ (u : List ℕ). take 2 u) (drop-drop (2 * i) 2 s ∙ ap (λ k. drop k s) (omega arith))

module _ (n i : ℕ) (s : List ℕ) (h : i < n) {ps : List (List ℕ)} (e : ps ≡ first_chunks 2 n s) where
  pub pair-low : get_or (get_or ps i []) 0 0 ≡ get_or s (2 * i) 0
  pair-low = rw (e, pair-at n i s h) (get_or-take 2 (drop (2 * i) s) 0 0 (omega arith) ∙ get_or-drop (2 * i) s 0 0 ∙ ap (λ k. get_or s k 0) (omega arith))

  pub pair-high : get_or (get_or ps i []) 1 0 ≡ get_or s (2 * i + 1) 0
  pair-high = rw (e, pair-at n i s h) (get_or-take 2 (drop (2 * i) s) 1 0 (omega arith) ∙ get_or-drop (2 * i) s 1 0)

-- the byte that is in no pair
pub odd-byte : (s : List ℕ) {odd : List ℕ} → odd ≡ drop (length s / 2 * 2) s → get_or odd 0 0 ≡ get_or s (length s / 2 * 2) 0
odd-byte s e = rw e (get_or-drop (length s / 2 * 2) s 0 0 ∙ ap (λ k. get_or s k 0) (omega arith))

-- ---- part by part

sum-append : (u v : List ℕ) → sum (u ++ v) ≡ sum u + sum v
unfolding sum
sum-append [] v = sym (zero-add _)
sum-append (w ∷ u) v = rw (sum-append u v, add_assoc w)

running-append : (a : ℕ) (u v : List ℕ) → sum (running a (u ++ v)) ≡ sum (running a u) + sum (running (a + sum u) v)
unfolding sum running
running-append a [] v = rw (add-zero a, zero-add)
running-append a (w ∷ u) v = rw (running-append (a + w) u v, ← add_assoc a w (sum u), add_assoc (a + w))

-- sums of numbers with the same remainders have the same remainder
plus_same : (x y u v : ℕ) → x % 65535 ≡ y % 65535 → u % 65535 ≡ v % 65535 → (x + u) % 65535 ≡ (y + v) % 65535
plus_same x y u v e f = add-mod x u 65535 ∙ ap₂ (λ m n. (m + n) % 65535) e f ∙ sym (add-mod y v 65535)

running-same : (ws : List ℕ) (x y : ℕ) → x % 65535 ≡ y % 65535 → sum (running x ws) % 65535 ≡ sum (running y ws) % 65535
unfolding sum running
running-same [] x y e = refl
running-same (w ∷ ws) x y e =
    let f = plus_same x y w w e refl in
    plus_same (x + w) (y + w) (sum (running (x + w) ws)) (sum (running (y + w) ws)) f (running-same ws (x + w) (y + w) f)

-- words may be added to what words before them gave
from-append : (a b : ℕ) (u v : List ℕ) → sums_from a b (u ++ v) ≡ sums_from (sums_from a b u).a (sums_from a b u).b v
unfolding sums_from
from-append a b u v =
    let p = a + sum u in
    let q = b + sum (running a u) in
    let e : a + sum (u ++ v) ≡ p + sum v = rw (sum-append u v, add_assoc a) in
    let f : b + sum (running a (u ++ v)) ≡ q + sum (running p v) = rw (running-append a u v, add_assoc b) in
    ap₂ (λ m n. reduced m n) e f
    ∙ cc (plus_same p (p % 65535) (sum v) (sum v) (sym (mod-mod p 65535)) refl, plus_same q (q % 65535) (sum (running p v)) (sum (running (p % 65535) v)) (sym (mod-mod q 65535)) (running-same v p (p % 65535) (sym (mod-mod p 65535))))

-- The words before the rest of s are in t, which is reduced.
pub record Before (s : List ℕ) (t : Sums) (rest : List ℕ) : Type 0 where
  pub a-below : t.a < 65535
  pub b-below : t.b < 65535
  pub same : sums_from t.a t.b (words rest) ≡ sums_of s

pub before-start : (s : List ℕ) → Before s (record { a = 0; b = 0 }) s
unfolding sums_from check_a check_b
before-start s = record { a-below = omega arith; b-below = omega arith; same = simp zero-add }

from-below : (a b : ℕ) (ws : List ℕ) → ((sums_from a b ws).a < 65535) × ((sums_from a b ws).b < 65535)
unfolding sums_from
from-below a b ws = (omega arith, omega arith)

module _ {s : List ℕ} {t : Sums} {rest : List ℕ} (l : Before s t rest) where
  pub before-next : (u left : List ℕ) {t' : Sums} → rest ≡ u ++ left → length u ≡ min 508 (length rest) → t' ≡ sums_from t.a t.b (words u) → Before s t' left
  before-next u left {t'} e n k =
      let (p, q) = from-below t.a t.b (words u) in
      let w : words rest ≡ words u ++ words left = ap words e ∙ words-append u left 254 (n ∙ ap (λ (v : List ℕ). min 508 (length v)) e) in
      record {
        a-below = rw k p;
        b-below = rw k q;
        same = rw (k, ← from-append, ← w) l.same;
      }

  pub before-end : length rest ≡ 0 → t ≡ sums_of s
  unfolding sums_from words sum running
  before-end h =
      let e : rest ≡ [] = nil_from_length rest h in
      sym (ap₂ (λ m n. record { a = m; b = n }) (rw add-zero (mod-eq_of_lt l.a-below)) (rw add-zero (mod-eq_of_lt l.b-below))) ∙ (rw e at l.same)
