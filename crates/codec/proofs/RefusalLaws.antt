-- Which numbers a format may refuse with, for each way to put formats together.
-- Assumes nothing.
use Rattle.std.specs.Prelude.{ℕ, zero, suc, ◌+◌, ◌-◌, ◌/◌, ◌≡◌, refl, Bool, true, false, not, ◌||◌, cond, take, leb, eqb}
use Rattle.std.proofs.Common.{sym, subst}
use mathlib.Core.List.{List, [], ◌∷◌}
use Rattle.std.proofs.Math.ListN.{length, drop}
use Rattle.refusal.specs.declared.Refusal.{Refusal}
use Rattle.codec.specs.Codec.{Res, ok, refuse, ◌>>=◌, need, shifted, Codec, value, raw, skip, padded, num, fixed, ◌then◌, ◌on◌, named, checked, judged, asks, placed, sized, among, times_parse, times, distinct_parse, distinct, limited, whole, boxed, is_nil, full, remainder}
use Rattle.codec.specs.CaseLaws.{no_true, both_true, by_eqb}
use Rattle.codec.specs.Refusals.{Gives, Only, In, all_among, all_pass, Fault}

-- ---- lists of numbers

-- a number of one list is one of another that has all of it
pub in_more : (xs ys : List ℕ) → all_among xs ys ≡ true → (k : ℕ) → In xs k → In ys k
in_more [] ys h k i = absurd (no_true (sym i))
in_more (x ∷ xs) ys h k i =
    let (a, b) = both_true (among x ys) (all_among xs ys) h in
    by_eqb k x (λ e q. subst (λ (n : ℕ). In ys n) (sym q) a) (λ e q. in_more xs ys b k (subst (λ (t : Bool). (t || among k xs) ≡ true) e i))

-- a number of a list all of which passes a test passes it
pub in_pass : (test : ℕ → Bool) (ns : List ℕ) → all_pass test ns ≡ true → (k : ℕ) → In ns k → test k ≡ true
in_pass test [] h k i = absurd (no_true (sym i))
in_pass test (x ∷ xs) h k i =
    let (a, b) = both_true (test x) (all_pass test xs) h in
    by_eqb k x (λ e q. subst (λ (n : ℕ). test n ≡ true) (sym q) a) (λ e q. in_pass test xs b k (subst (λ (t : Bool). (t || among k xs) ≡ true) e i))

-- ---- what reading gives

pub gives_more : (P Q : ℕ → Type 0) {A : Type 0} → ((k : ℕ) → P k → Q k) → (r : Res A) → Gives P r → Gives Q r
gives_more P Q h (ok x j) g = tt
gives_more P Q h (refuse k) g = h k.number g

module _ (P : ℕ → Type 0) where
  pub gives_is : {A : Type 0} {r : Res A} {k : Refusal} → Gives P r → r ≡ refuse k → P k.number
  gives_is {A} g e = subst (λ (r : Res A). Gives P r) e g

  pub gives_then : {A B : Type 0} (r : Res A) (f : A → ℕ → Res B) → Gives P r → ((x : A) (j : ℕ) → Gives P (f x j)) → Gives P (r >>= f)
  gives_then (ok x j) f g h = h x j
  gives_then (refuse k) f g h = g

  -- a list of its own: the numbers are its numbers
  pub gives_shifted : {A : Type 0} (p : ℕ) (r : Res A) → Gives P r → Gives P (shifted p r)
  gives_shifted p (ok x j) g = g
  gives_shifted p (refuse k) g = g

  -- the rules' own number, which is no refusal where it is 0
  pub gives_judged : (n i : ℕ) → Fault P n → Gives P (need (eqb 0 n) n i)
  gives_judged n i p =
      by_eqb 0 n
      (λ e z. subst (λ (b : Bool). Gives P (need b n i)) (sym e) tt)
      (λ e z. subst (λ (b : Bool). Gives P (need b n i)) (sym e) (p (λ q. z (sym q))))

  -- of two, by a test
  pub gives_by : {A : Type 0} (b : Bool) (r q : Res A) → Gives P r → Gives P q → Gives P (cond b r q)
  gives_by true r q g h = g
  gives_by false r q g h = h

  pub fault-by : (b : Bool) (m n : ℕ) → Fault P m → Fault P n → Fault P (cond b m n)
  fault-by true m n f g = f
  fault-by false m n f g = g

  -- a test, and then
  pub gives_test : {B : Type 0} (b : Bool) (k i : ℕ) (f : Unit {0} → ℕ → Res B) → P k → Gives P (f tt i) → Gives P (need b k i >>= f)
  gives_test true k i f p h = h
  gives_test false k i f p h = p

  -- ---- the ways to put formats together

  pub only-raw : (k n : ℕ) → P k → Only P (raw k n)
  unfolding raw
  only-raw k n p base s i = gives_test (leb (i + n) (length s)) k i (λ _ _. ok (take n (drop i s)) (i + n)) p tt

  pub only-skip : (k n : ℕ) → P k → Only P (skip k n)
  unfolding skip
  only-skip k n p = only-raw k n p

  pub only-padded : (k n m : ℕ) → P k → Only P (padded k n m)
  unfolding padded
  only-padded k n m p base s i = gives_then ((raw k (n + m)).parse base s i) (λ x j. ok (take n x, drop n x) j) (only-raw k (n + m) p base s i) (λ x j. tt)

  pub only-num : (k w : ℕ) → P k → Only P (num k w)
  unfolding num
  only-num k w p base s i = gives_then ((raw k w).parse base s i) (λ x j. ok (value x) j) (only-raw k w p base s i) (λ x j. tt)

  pub only-fixed : (k k' w b : ℕ) → P k → P k' → Only P (fixed k k' w b)
  unfolding fixed
  only-fixed k k' w b p q base s i =
      gives_then ((num k w).parse base s i) (λ x j. need (eqb b x) k' i >>= λ _ _. ok tt j) (only-num k w p base s i)
      (λ x j. gives_test (eqb b x) k' i (λ _ _. ok tt j) q tt)

  module _ {A : Type 0} (c : Codec A) (o : Only P c) where
    pub only_then : {B : Type 0} (d : Codec B) → Only P d → Only P (c then d)
    unfolding ◌then◌
    only_then d q base s i =
        gives_then (c.parse base s i) (λ x j. d.parse base s j >>= λ y k. ok (x, y) k) (o base s i)
        (λ x j. gives_then (d.parse base s j) (λ y k. ok (x, y) k) (q base s j) (λ y k. tt))

    pub only-on : {B : Type 0} (d : A → Codec B) → ((x : A) → Only P (d x)) → Only P (c on d)
    unfolding ◌on◌
    only-on d q base s i =
        gives_then (c.parse base s i) (λ x j. (d x).parse base s j >>= λ y k. ok (x, y) k) (o base s i)
        (λ x j. gives_then ((d x).parse base s j) (λ y k. ok (x, y) k) (q x base s j) (λ y k. tt))

    pub only-named : {B : Type 0} (to : A → B) (from : B → A) → Only P (named to from c)
    unfolding named
    only-named to from base s i = gives_then (c.parse base s i) (λ x j. ok (to x) j) (o base s i) (λ x j. tt)

    pub only-checked : (test : A → Bool) (k : ℕ) → P k → Only P (checked test k c)
    unfolding checked
    only-checked test k p base s i =
        gives_then (c.parse base s i) (λ x j. need (test x) k i >>= λ _ _. ok x j) (o base s i)
        (λ x j. gives_test (test x) k i (λ _ _. ok x j) p tt)

    pub only-judged : (rules : A → ℕ) → ((x : A) → Fault P (rules x)) → Only P (judged rules c)
    unfolding judged
    only-judged rules p base s i =
        gives_then (c.parse base s i) (λ x j. need (eqb 0 (rules x)) (rules x) 0 >>= λ _ _. ok x j) (o base s i)
        (λ x j. gives_then (need (eqb 0 (rules x)) (rules x) 0) (λ _ _. ok x j) (gives_judged (rules x) 0 (p x)) (λ _ _. tt))

    pub only-asks : (k n : ℕ) → P k → Only P (asks k n c)
    unfolding asks
    only-asks k n p base s i = gives_test (leb (i + n) (length s)) k i (λ _ _. c.parse base s i) p (o base s i)

    pub only-placed : Only P (placed c)
    unfolding placed
    only-placed base s i = gives_then (c.parse base s i) (λ x j. ok (base + i, x) j) (o base s i) (λ x j. tt)

    pub gives_times : (n base : ℕ) (s : List ℕ) (i : ℕ) → Gives P (times_parse c n base s i)
    gives_times zero base s i = tt
    gives_times (suc n) base s i =
        gives_then (c.parse base s i) (λ x j. times_parse c n base s j >>= λ xs k. ok (x ∷ xs) k) (o base s i)
        (λ x j. gives_then (times_parse c n base s j) (λ xs k. ok (x ∷ xs) k) (gives_times n base s j) (λ xs k. tt))

    pub only-times : (n : ℕ) → Only P (times c n)
    unfolding times
    only-times n = gives_times n

    module _ (key : A → ℕ) (k : ℕ) (p : P k) where
      gives_distinct : (n : ℕ) (seen : List ℕ) (base : ℕ) (s : List ℕ) (i : ℕ) → Gives P (distinct_parse c key k n seen base s i)
      gives_distinct zero seen base s i = tt
      gives_distinct (suc n) seen base s i =
          gives_then (c.parse base s i) (λ x j. need (not (among (key x) seen)) k i >>= λ _ _. distinct_parse c key k n (key x ∷ seen) base s j >>= λ xs m. ok (x ∷ xs) m) (o base s i)
          (λ x j. gives_test (not (among (key x) seen)) k i (λ _ _. distinct_parse c key k n (key x ∷ seen) base s j >>= λ xs m. ok (x ∷ xs) m) p
          (gives_then (distinct_parse c key k n (key x ∷ seen) base s j) (λ xs m. ok (x ∷ xs) m) (gives_distinct n (key x ∷ seen) base s j) (λ xs m. tt)))

      pub only-distinct : (n : ℕ) → Only P (distinct c key k n)
      unfolding distinct
      only-distinct n = gives_distinct n []

    pub only-limited : (k k' w least : ℕ) → P k → P k' → Only P (limited c k k' w least)
    unfolding limited
    only-limited k k' w least p q base s i =
        gives_then ((num k w).parse base s i) (λ n j. need (leb n ((length s - j) / least)) k' i >>= λ _ _. times_parse c n base s j) (only-num k w p base s i)
        (λ n j. gives_test (leb n ((length s - j) / least)) k' i (λ _ _. times_parse c n base s j) q (gives_times n base s j))

    pub gives_whole : (base : ℕ) (s : List ℕ) → Gives P (whole c base s)
    unfolding whole
    gives_whole base s = gives_then (c.parse base s 0) (λ x j. ok (x, drop j s) (length s)) (o base s 0) (λ x j. tt)

    pub only-boxed : (k k' k'' w own least : ℕ) (inner : ℕ → ℕ) (spot : (ℕ → List ℕ → Type 0) → A → Type 0) → P k → P k' → P k'' → Only P (boxed k k' k'' w own least inner spot c)
    unfolding boxed
    only-boxed k k' k'' w own least inner spot p p' p'' base s i =
        gives_then ((num k w).parse base s i) (λ n j. need (leb least n) k' i >>= λ _ _. (raw k'' (n - own)).parse base s j >>= λ body m. shifted j (whole c (inner (base + j)) body) >>= λ z _. ok z m) (only-num k w p base s i)
        (λ n j. gives_test (leb least n) k' i (λ _ _. (raw k'' (n - own)).parse base s j >>= λ body m. shifted j (whole c (inner (base + j)) body) >>= λ z _. ok z m) p'
        (gives_then ((raw k'' (n - own)).parse base s j) (λ body m. shifted j (whole c (inner (base + j)) body) >>= λ z _. ok z m) (only-raw k'' (n - own) p'' base s j)
        (λ body m. gives_then (shifted j (whole c (inner (base + j)) body)) (λ z _. ok z m) (gives_shifted j (whole c (inner (base + j)) body) (gives_whole (inner (base + j)) body)) (λ z _. tt))))

    pub only-remainder : Only P (remainder c)
    unfolding remainder
    only-remainder base s i =
        gives_then (shifted i (c.parse (base + i) (drop i s) 0)) (λ x j. ok x (i + j)) (gives_shifted i (c.parse (base + i) (drop i s) 0) (o (base + i) (drop i s) 0)) (λ x j. tt)

  pub only-sized : {A : Type 0} (k w : ℕ) (size : A → ℕ) (c : ℕ → Codec A) → P k → ((n : ℕ) → Only P (c n)) → Only P (sized k w size c)
  unfolding sized
  only-sized k w size c p o base s i = gives_then ((num k w).parse base s i) (λ n j. (c n).parse base s j) (only-num k w p base s i) (λ n j. o n base s j)

  pub only-full : {A : Type 0} (k : ℕ) (c : Codec (A × List ℕ)) → P k → Only P c → Only P (full k c)
  unfolding full
  only-full k c p o base s i =
      gives_then (c.parse base s i) (λ z j. need (is_nil z.1) k (j - length z.1) >>= λ _ _. ok z.0 j) (o base s i)
      (λ z j. gives_test (is_nil z.1) k (j - length z.1) (λ _ _. ok z.0 j) p tt)
