-- A format ends within what it is given, and so does the place of each refusal: one law for each way to put formats together.
-- Assumes nothing.
use Prim.Native.Nat.{ℕ, zero, suc, ◌+◌, ◌-◌, ◌/◌, ◌≤◌, zero-le}
use Rattle.std.proofs.Common.{arith, le_refl, le_trans, subst, length-take}
use Rattle.std.specs.Prelude.{◌≡◌, refl, Bool, true, false, not, leb, eqb}
use mathlib.Core.List.{List, ◌∷◌}
use Rattle.std.proofs.Math.ListN.{length, take, drop, length-drop}
use borrow.Author.Tests.{leb-true}
use Rattle.refusal.specs.declared.Refusal.{Refusal}
use Rattle.codec.specs.Codec.{Res, ok, refuse, ◌>>=◌, need, moved, shifted, Codec, value, raw, skip, padded, num, fixed, ◌then◌, ◌on◌, named, checked, judged, asks, placed, sized, among, times_parse, times, distinct_parse, distinct, limited, whole, boxed, is_nil, full, remainder}
use Rattle.codec.specs.CaseLaws.{by_bool}
use Rattle.codec.specs.Refusals.{Within, ends, tells, Inside}

-- ---- what reading gives

-- the place of a refusal
pub within-is : {A : Type 0} {i n : ℕ} {r : Res A} {k : Refusal} → Within i n r → r ≡ refuse k → k.place ≤ n
within-is {A} {i} {n} {r} {k} w e = go (rw e at w)
  where
    go : Within {A = A} i n (refuse k) → k.place ≤ n
    go (tells h) = h

module _ {A B : Type 0} {i n : ℕ} where
  pub within-then : (r : Res A) (f : A → ℕ → Res B) → Within i n r → ((x : A) (j : ℕ) → i ≤ j → j ≤ n → Within i n (f x j)) → Within i n (r >>= f)
  within-then (ok x j) f (ends a b) h = h x j a b
  within-then (refuse k) f (tells l) h = tells l

-- from a later place on is from an earlier one on
pub within-from : {A : Type 0} {h i n : ℕ} {r : Res A} → h ≤ i → Within i n r → Within h n r
within-from l (ends a b) = ends (le_trans l a) b
within-from l (tells q) = tells q

-- a test at place p, and then
pub within_test : {B : Type 0} {i n : ℕ} (b : Bool) (k p : ℕ) (f : Unit {0} → ℕ → Res B) → p ≤ n → (b ≡ true → Within i n (f tt p)) → Within i n (need b k p >>= f)
within_test true k p f l h = h refl
within_test false k p f l h = tells l

-- a list of its own of m bytes that begins at place p here, and then
pub within-shifted : {A B : Type 0} {i n : ℕ} (p m : ℕ) (r : Res A) (f : A → ℕ → Res B) → p + m ≤ n → Within 0 m r → ((x : A) (j : ℕ) → j ≤ m → Within i n (f x j)) → Within i n (shifted p r >>= f)
within-shifted p m (ok x j) f l (ends a b) h = h x j b
within-shifted p m (refuse k) f l (tells q) h = tells {k = moved p k} (omega arith)

-- ---- the ways to put formats together

pub inside-raw : (k n : ℕ) → Inside (raw k n)
unfolding raw
inside-raw k n base s i l = within_test (leb (i + n) (length s)) k i (λ _ _. ok (take n (drop i s)) (i + n)) l (λ e. ends (omega arith) (leb-true (i + n) (length s) e))

pub inside-skip : (k n : ℕ) → Inside (skip k n)
unfolding skip
inside-skip k n = inside-raw k n

pub inside-padded : (k n m : ℕ) → Inside (padded k n m)
unfolding padded
inside-padded k n m base s i l = within-then ((raw k (n + m)).parse base s i) (λ x j. ok (take n x, drop n x) j) (inside-raw k (n + m) base s i l) (λ x j a b. ends a b)

pub inside-num : (k w : ℕ) → Inside (num k w)
unfolding num
inside-num k w base s i l = within-then ((raw k w).parse base s i) (λ x j. ok (value x) j) (inside-raw k w base s i l) (λ x j a b. ends a b)

pub inside-fixed : (k k' w b : ℕ) → Inside (fixed k k' w b)
unfolding fixed
inside-fixed k k' w b base s i l =
    within-then ((num k w).parse base s i) (λ x j. need (eqb b x) k' i >>= λ _ _. ok tt j) (inside-num k w base s i l)
    (λ x j a z. within_test (eqb b x) k' i (λ _ _. ok tt j) l (λ _. ends a z))

module _ {A : Type 0} (c : Codec A) (o : Inside c) where
  pub inside-then : {B : Type 0} (d : Codec B) → Inside d → Inside (c then d)
  unfolding ◌then◌
  inside-then d q base s i l =
      within-then (c.parse base s i) (λ x j. d.parse base s j >>= λ y k. ok (x, y) k) (o base s i l)
      (λ x j a b. within-then (d.parse base s j) (λ y k. ok (x, y) k) (within-from a (q base s j b)) (λ y k u v. ends u v))

  pub inside_on : {B : Type 0} (d : A → Codec B) → ((x : A) → Inside (d x)) → Inside (c on d)
  unfolding ◌on◌
  inside_on d q base s i l =
      within-then (c.parse base s i) (λ x j. (d x).parse base s j >>= λ y k. ok (x, y) k) (o base s i l)
      (λ x j a b. within-then ((d x).parse base s j) (λ y k. ok (x, y) k) (within-from a (q x base s j b)) (λ y k u v. ends u v))

  pub inside-named : {B : Type 0} (to : A → B) (from : B → A) → Inside (named to from c)
  unfolding named
  inside-named to from base s i l = within-then (c.parse base s i) (λ x j. ok (to x) j) (o base s i l) (λ x j a b. ends a b)

  pub inside-checked : (test : A → Bool) (k : ℕ) → Inside (checked test k c)
  unfolding checked
  inside-checked test k base s i l =
      within-then (c.parse base s i) (λ x j. need (test x) k i >>= λ _ _. ok x j) (o base s i l)
      (λ x j a b. within_test (test x) k i (λ _ _. ok x j) l (λ _. ends a b))

  pub inside-judged : (rules : A → ℕ) → Inside (judged rules c)
  unfolding judged
  inside-judged rules base s i l =
      within-then (c.parse base s i) (λ x j. need (eqb 0 (rules x)) (rules x) 0 >>= λ _ _. ok x j) (o base s i l)
      (λ x j a b. within_test (eqb 0 (rules x)) (rules x) 0 (λ _ _. ok x j) zero-le (λ _. ends a b))

  pub inside-asks : (k n : ℕ) → Inside (asks k n c)
  unfolding asks
  inside-asks k n base s i l = within_test (leb (i + n) (length s)) k i (λ _ _. c.parse base s i) l (λ _. o base s i l)

  pub inside-placed : Inside (placed c)
  unfolding placed
  inside-placed base s i l = within-then (c.parse base s i) (λ x j. ok (base + i, x) j) (o base s i l) (λ x j a b. ends a b)

  pub within-times : (n base : ℕ) (s : List ℕ) (i : ℕ) → i ≤ length s → Within i (length s) (times_parse c n base s i)
  within-times zero base s i l = ends (le_refl i) l
  within-times (suc n) base s i l =
      within-then (c.parse base s i) (λ x j. times_parse c n base s j >>= λ xs k. ok (x ∷ xs) k) (o base s i l)
      (λ x j a b. within-then (times_parse c n base s j) (λ xs k. ok (x ∷ xs) k) (within-from a (within-times n base s j b)) (λ xs k u v. ends u v))

  pub inside-times : (n : ℕ) → Inside (times c n)
  unfolding times
  inside-times n = within-times n

  module _ (key : A → ℕ) (k : ℕ) where
    within-distinct : (n : ℕ) (seen : List ℕ) (base : ℕ) (s : List ℕ) (i : ℕ) → i ≤ length s → Within i (length s) (distinct_parse c key k n seen base s i)
    within-distinct zero seen base s i l = ends (le_refl i) l
    within-distinct (suc n) seen base s i l =
        within-then (c.parse base s i) (λ x j. need (not (among (key x) seen)) k i >>= λ _ _. distinct_parse c key k n (key x ∷ seen) base s j >>= λ xs m. ok (x ∷ xs) m) (o base s i l)
        (λ x j a b. within_test (not (among (key x) seen)) k i (λ _ _. distinct_parse c key k n (key x ∷ seen) base s j >>= λ xs m. ok (x ∷ xs) m) l
        (λ _. within-then (distinct_parse c key k n (key x ∷ seen) base s j) (λ xs m. ok (x ∷ xs) m)
        (within-from a (within-distinct n (key x ∷ seen) base s j b)) (λ xs m u v. ends u v)))

    pub inside-distinct : (n : ℕ) → Inside (distinct c key k n)
    unfolding distinct
    inside-distinct n = within-distinct n _

  pub inside-limited : (k k' w least : ℕ) → Inside (limited c k k' w least)
  unfolding limited
  inside-limited k k' w least base s i l =
      within-then ((num k w).parse base s i) (λ n j. need (leb n ((length s - j) / least)) k' i >>= λ _ _. times_parse c n base s j) (inside-num k w base s i l)
      (λ n j a b. within_test (leb n ((length s - j) / least)) k' i (λ _ _. times_parse c n base s j) l (λ _. within-from a (within-times n base s j b)))

  pub within-whole : (base : ℕ) (s : List ℕ) → Within 0 (length s) (whole c base s)
  unfolding whole
  within-whole base s = within-then (c.parse base s 0) (λ x j. ok (x, drop j s) (length s)) (o base s 0 zero-le) (λ x j a b. ends zero-le (le_refl (length s)))

  -- n bytes from place j on, as a list of their own
  within-body : (k n from base : ℕ) (s : List ℕ) (i j : ℕ) → i ≤ j → j ≤ length s
      → Within i (length s) ((raw k n).parse base s j >>= λ body m. shifted j (whole c from body) >>= λ z _. ok z m)
  unfolding raw
  within-body k n from base s i j a b =
      by_bool (leb (j + n) (length s))
      (λ e.
      let h = leb-true (j + n) (length s) e in
      let t : List ℕ = take n (drop j s) in
      let lt : length t ≡ n = simp (length-take, length-drop) (omega arith) in
      rw e (within-shifted j (length t) (whole c from t) (λ z _. ok z (j + n)) (omega arith) (within-whole from t) (λ z _ _. ends (omega arith) h)))
      (λ e. rw e (tells b))

  pub inside-boxed : (k k' k'' w own least : ℕ) (inner : ℕ → ℕ) (spot : (ℕ → List ℕ → Type 0) → A → Type 0) → Inside (boxed k k' k'' w own least inner spot c)
  unfolding boxed
  inside-boxed k k' k'' w own least inner spot base s i l =
      within-then ((num k w).parse base s i) (λ n j. need (leb least n) k' i >>= λ _ _. (raw k'' (n - own)).parse base s j >>= λ body m. shifted j (whole c (inner (base + j)) body) >>= λ z _. ok z m) (inside-num k w base s i l)
      (λ n j a b. within_test (leb least n) k' i (λ _ _. (raw k'' (n - own)).parse base s j >>= λ body m. shifted j (whole c (inner (base + j)) body) >>= λ z _. ok z m) l
      (λ _. within-body k'' (n - own) (inner (base + j)) base s i j a b))

  pub inside-remainder : Inside (remainder c)
  unfolding remainder
  inside-remainder base s i l =
      let d : length (drop i s) ≡ length s - i = length-drop i s in
      within-shifted i (length (drop i s)) (c.parse (base + i) (drop i s) 0) (λ x j. ok x (i + j)) (omega arith) (o (base + i) (drop i s) 0 zero-le) (λ x j h. ends (omega arith) (omega arith))

pub inside-sized : {A : Type 0} (k w : ℕ) (size : A → ℕ) (c : ℕ → Codec A) → ((n : ℕ) → Inside (c n)) → Inside (sized k w size c)
unfolding sized
inside-sized k w size c o base s i l =
    within-then ((num k w).parse base s i) (λ n j. (c n).parse base s j) (inside-num k w base s i l) (λ n j a b. within-from a (o n base s j b))

pub inside-full : {A : Type 0} (k : ℕ) (c : Codec (A × List ℕ)) → Inside c → Inside (full k c)
unfolding full
inside-full k c o base s i l =
    within-then (c.parse base s i) (λ z j. need (is_nil z.1) k (j - length z.1) >>= λ _ _. ok z.0 j) (o base s i l)
    (λ z j a b. within_test (is_nil z.1) k (j - length z.1) (λ _ _. ok z.0 j) (omega arith) (λ _. ends a b))
