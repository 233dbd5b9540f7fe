-- Tiling by search. A chase goes from end to end, by any span that starts at the cursor, until there is none. The walk over the
-- sorted spans says what the chase says: it meets a gap exactly where the chase used fewer spans than there are. Assumes nothing.
use Prim.Native.Nat.{ℕ, suc, ◌+◌, ◌≤◌, ◌<◌, zero-le, suc-le-suc}
use mathlib.Core.Path.{◌≡◌, refl, ap, ◌∙◌}
use mathlib.Core.Bool.{true, false, cond}
use mathlib.Core.List.{List, [], ◌∷◌}
use native.Mathlib.Nat.{le_refl, le_trans, le_of_lt, zero-add, add-zero}
use native.Mathlib.Omega.{arith}
use lib.ListN.{length}
use lib.Dec.{leb, eqb, eqb-suc-suc, eqb-zero-suc}
use borrow.Author.Tests.{eq-eqb, ne_eqb, leb-true, leb-false}
use Rattle.codec.specs.CaseLaws.{by_bool, by_eqb, by_order}
use Rattle.plain_tiling.specs.Tile.{Span, insert, sorted, walk}
use Rattle.item_rules.specs.Search.{Has, here, there, None, Proper, Chase, stop, step, Reached, begun, on, find}

by-leb {ℓ} : {P : Type ℓ} (a b : ℕ) → (leb a b ≡ true → a ≤ b → P) → (leb a b ≡ false → b < a → P) → P
by-leb a b f g = by_bool (leb a b) (λ e. f e (leb-true a b e)) (λ e. g e (leb-false a b e))

-- no span starts below k
abbrev pub From : ℕ → List Span → Type 0
From k [] = Unit {0}
From k (s ∷ ss) = (k ≤ s.0) × From k ss

abbrev Ordered : List Span → Type 0
Ordered [] = Unit {0}
Ordered (s ∷ ss) = From s.0 ss × Ordered ss

pub from_down : (j k : ℕ) (t : List Span) → j ≤ k → From k t → From j t
from_down j k [] h f = tt
from_down j k (s ∷ t) h f = (le_trans h f.0, from_down j k t h f.1)

-- ---- the sort keeps what is there, in order

from-insert : (k : ℕ) (s : Span) (t : List Span) → k ≤ s.0 → From k t → From k (insert s t)
from-insert k s [] h f = (h, tt)
from-insert k s (x ∷ t) h f =
    by-leb s.0 x.0 (λ e _. rw e (h, f)) (λ e _. rw e (f.0, from-insert k s t h f.1))

ordered_insert : (s : Span) (t : List Span) → Ordered t → Ordered (insert s t)
ordered_insert s [] o = (tt, tt)
ordered_insert s (x ∷ t) o =
    by-leb s.0 x.0
    (λ e h. rw e ((h, from_down s.0 x.0 t h o.0), o))
    (λ e h. rw e (from-insert x.0 s t (le_of_lt h) o.0, ordered_insert s t o.1))

ordered_sorted : (ss : List Span) → Ordered (sorted ss)
ordered_sorted [] = tt
ordered_sorted (s ∷ ss) = ordered_insert s (sorted ss) (ordered_sorted ss)

proper_insert : (s : Span) (t : List Span) → s.0 < s.1 → Proper t → Proper (insert s t)
proper_insert s [] h p = (h, tt)
proper_insert s (x ∷ t) h p = by-leb s.0 x.0 (λ e _. rw e (h, p)) (λ e _. rw e (p.0, proper_insert s t h p.1))

proper_sorted : (ss : List Span) → Proper ss → Proper (sorted ss)
proper_sorted [] p = tt
proper_sorted (s ∷ ss) p = proper_insert s (sorted ss) p.0 (proper_sorted ss p.1)

length-insert : (s : Span) (t : List Span) → length (insert s t) ≡ suc (length t)
length-insert s [] = refl
length-insert s (x ∷ t) = by-leb s.0 x.0 (λ e _. rw e refl) (λ e _. rw e (ap suc (length-insert s t)))

length-sorted : (ss : List Span) → length (sorted ss) ≡ length ss
length-sorted [] = refl
length-sorted (s ∷ ss) = length-insert s (sorted ss) ∙ ap suc (length-sorted ss)

has-insert : (s : Span) (t : List Span) {c e : ℕ} → Has (s ∷ t) c e → Has (insert s t) c e
has-insert s [] h = h
has-insert s (x ∷ t) h = by-leb s.0 x.0 (λ q _. rw q h) (λ q _. rw q (go (has-insert s t) h))
  where
    go : {c e : ℕ} → (Has (s ∷ t) c e → Has (insert s t) c e) → Has (s ∷ x ∷ t) c e → Has (x ∷ insert s t) c e
    go f (here a b) = there (f (here a b))
    go f (there (here a b)) = here a b
    go f (there (there g)) = there (f (there g))

none-insert : (s : Span) (t : List Span) (c : ℕ) → None (s ∷ t) c → None (insert s t) c
none-insert s [] c n = n
none-insert s (x ∷ t) c n = by-leb s.0 x.0 (λ q _. rw q n) (λ q _. rw q (n.1.0, none-insert s t c (n.0, n.1.1)))

has-sorted : (ss : List Span) {c e : ℕ} → Has ss c e → Has (sorted ss) c e
has-sorted [] h = h
has-sorted (s ∷ ss) (here a b) = has-insert s (sorted ss) (here a b)
has-sorted (s ∷ ss) (there h) = has-insert s (sorted ss) (there (has-sorted ss h))

none-sorted : (ss : List Span) (c : ℕ) → None ss c → None (sorted ss) c
none-sorted [] c n = tt
none-sorted (s ∷ ss) c n = none-insert s (sorted ss) c (n.0, none-sorted ss c n.1)

chase_sorted : (ss : List Span) {c u l : ℕ} → Chase ss c u l → Chase (sorted ss) c u l
chase_sorted ss (stop {c = c} n) = stop (none-sorted ss c n)
chase_sorted ss (step h k) = step (has-sorted ss h) (chase_sorted ss k)

-- ---- on sorted spans

has-past : (t : List Span) {c e : ℕ} → Proper t → Has t c e → c < e
has-past [] {c = c} {e = e} p x = elim x [ ]
has-past (s ∷ t) {c} {e} p (here a b) = omega (arith, p.0)
has-past (s ∷ t) p (there h) = has-past t p.1 h

has_above : (t : List Span) {k c e : ℕ} → From k t → Has t c e → k ≤ c
has_above [] {k = k} {c = c} {e = e} f x = elim x [ ]
has_above (s ∷ t) {k} {c} f (here a b) = omega (arith, f.0)
has_above (s ∷ t) f (there h) = has_above t f.1 h

-- a span that starts before the cursor is never used
chase_drop : (s : Span) (t : List Span) → Proper t → {c u l : ℕ} → s.0 < c → Chase (s ∷ t) c u l → Chase t c u l
chase_drop s t p h (stop n) = stop n.1
chase_drop s t p {c} h (step (here a b) k) = absurd (let z : ⊥ = omega arith in z)
chase_drop s t p {c} h (step {e = e} (there g) k) =
    let q : c < e = has-past t p g in
    let later : s.0 < e = omega arith in
    step g (chase_drop s t p later k)

-- a chase that can find nothing
chase_none : (t : List Span) {c u l : ℕ} → ((e : ℕ) → Has t c e → ⊥) → Chase t c u l → u ≡ 0
chase_none t n (stop _) = refl
chase_none t n (step {e = e} h k) = absurd (n e h)

chase_most : (t : List Span) → Ordered t → Proper t → {c u l : ℕ} → Chase t c u l → u ≤ length t
chase_most [] o p (stop n) = zero-le
chase_most [] o p {c = c} {l = l} (step {e = e} {u = u} h k) = elim h [ ]
chase_most (s ∷ t) o p (stop n) = zero-le
chase_most (s ∷ t) o p {c} (step {e = e} {u = u} h k) =
    let q : c < e = has-past (s ∷ t) p h in
    let g : s.0 ≤ c = first h in
    let later : s.0 < e = omega arith in
    suc-le-suc (chase_most t o.1 p.1 (chase_drop s t p.1 later k))
  where
    first : {c e : ℕ} → Has (s ∷ t) c e → s.0 ≤ c
    first h = has_above (s ∷ t) (le_refl s.0, o.0) h

module _ (gap : ℕ) (last : ℕ → ℕ) where
  -- what a chase that used u of n spans and ended at l says
  abbrev pub verdict : ℕ → ℕ → ℕ → ℕ
  verdict n u l = cond (eqb u n) (last l) gap

  -- two spans at the cursor: the walk meets a gap, and the chase leaves one of them out
  twice : (s : Span) (t : List Span) → Ordered (s ∷ t) → Proper (s ∷ t) → {c e u l : ℕ} → s.0 ≡ c → Has t c e → Chase (s ∷ t) e u l → walk gap last s.1 t ≡ verdict (length t) u l
  twice s [] o p {c = c} {e = e} {u = u} {l = l} q h k = elim h [ ]
  twice s (x ∷ t) o p {c} {e} {u} {l} q h k =
      let a : c < e = has-past (x ∷ t) p.1 h in
      let b : x.0 ≤ c = has_above (x ∷ t) (le_refl x.0, o.1.0) h in
      let b' : s.0 ≤ x.0 = o.0.0 in
      let d : s.0 < s.1 = p.0 in
      let n : x.0 ≡ s.1 → ⊥ = λ z. let y : ⊥ = omega arith in y in
      let f : s.0 < e = omega arith in
      let g : x.0 < e = omega arith in
      let m : u ≤ length t = chase_most t o.1.1 p.1.1 (chase_drop x t p.1.1 g (chase_drop s (x ∷ t) p.1 f k)) in
      let few : u ≡ suc (length t) → ⊥ = λ z. let y : ⊥ = omega arith in y in
      rw (ne_eqb x.0 s.1 n, ne_eqb u (suc (length t)) few)

  walk_chase : (t : List Span) → Ordered t → Proper t → {c u l : ℕ} → Chase t c u l → walk gap last c t ≡ verdict (length t) u l
  walk_chase [] o p (stop n) = refl
  walk_chase [] o p {c = c} {l = l} (step {e = e} {u = u} h k) = elim h [ ]
  walk_chase (s ∷ t) o p (stop {c = c} n) = rw (ne_eqb s.0 c n.0, eqb-zero-suc)
  walk_chase (s ∷ t) o p {c} (step {u = u} {l = l} (here a b) k) =
      rw (eq-eqb s.0 c a, eqb-suc-suc) (walk_chase t o.1 p.1 (chase_drop s t p.1 p.0 (rw (← b) at k)))
  walk_chase (s ∷ t) o p {c} (step {e = e} {u = u} {l = l} (there h) k) =
      by_order s.0 c
      (λ lt.
      let q : c < e = has-past t p.1 h in
      let later : s.0 < e = omega arith in
      let m : u ≤ length t = chase_most t o.1 p.1 (chase_drop s t p.1 later k) in
      let below : s.0 ≡ c → ⊥ = λ z. let y : ⊥ = omega arith in y in
      rw (ne_eqb s.0 c below) (short-of lt h k))
      (λ q. rw (eq-eqb s.0 c q, eqb-suc-suc) (twice s t o p q h k))
      (λ gt. absurd (let y : s.0 ≤ c = has_above t o.0 h in let z : ⊥ = omega arith in z))
    where
      short-of : {c e u l : ℕ} → s.0 < c → Has t c e → Chase (s ∷ t) e u l → gap ≡ verdict (suc (length t)) (suc u) l
      short-of {c} {e} {u} {l} lt h k =
          let q : c < e = has-past t p.1 h in
          let later : s.0 < e = omega arith in
          let m : suc u ≤ length t = chase_most t o.1 p.1 (step h (chase_drop s t p.1 later k)) in
          let few : suc u ≡ suc (length t) → ⊥ = λ z. let y : ⊥ = omega arith in y in
          rw (ne_eqb (suc u) (suc (length t)) few)

  -- THE lemma: the walk over the sorted spans, by a chase over the spans as they come
  pub walk-sorted : (ss : List Span) → Proper ss → {c u l : ℕ} → Chase ss c u l → walk gap last c (sorted ss) ≡ verdict (length ss) u l
  walk-sorted ss p {c} {u} {l} k =
      walk_chase (sorted ss) (ordered_sorted ss) (proper_sorted ss p) (chase_sorted ss k)
      ∙ ap (λ (n : ℕ). verdict n u l) (length-sorted ss)

-- ---- the loop

join : (ss : List Span) (a : ℕ) {u c v l : ℕ} → Reached ss a u c → Chase ss c v l → Chase ss a (u + v) l
join ss a begun k = rw zero-add k
join ss a {v = v} (on {u = u} r h) k = let q : u + 1 + v ≡ u + suc v = omega arith in rw q (join ss a r (step h k))

pub ended : (ss : List Span) (a : ℕ) {u c : ℕ} → Reached ss a u c → None ss c → Chase ss a u c
ended ss a r n = rw add-zero at (join ss a r (stop n))

pub reach-past : (ss : List Span) {c e : ℕ} → Proper ss → Has ss c e → c < e
reach-past ss p h = has-past ss p h

-- ---- the search

pub find_none : (ss : List Span) (c : ℕ) → Proper ss → find ss c ≡ 0 → None ss c
find_none [] c p z = tt
find_none (s ∷ ss) c p z =
    by_eqb s.0 c
    (λ q _. absurd (let y : s.1 ≡ 0 = rw q at z in let w : ⊥ = omega (arith, p.0) in w))
    (λ q n. (n, find_none ss c p.1 (rw q at z)))

pub find-has : (ss : List Span) (c : ℕ) → (find ss c ≡ 0 → ⊥) → Has ss c (find ss c)
find-has [] c n = absurd (n refl)
find-has (s ∷ ss) c n = by_eqb s.0 c (λ q e. rw q (here e refl)) (λ q _. rw q (there (find-has ss c (rw q at n))))
