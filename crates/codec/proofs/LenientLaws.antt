-- What a format with tests left out reads: one law for each way to build a format. Where a law takes two formats, its parts may
-- leave out tests of their own.
-- Assumes nothing.
use Rattle.std.specs.Prelude.{ℕ, zero, suc, ◌+◌, ◌-◌, ◌/◌, ◌≡◌, Bool, true, false, not, List, ◌∷◌, length, drop, leb, eqb}
use Rattle.codec.specs.Codec.{ok, shifted, Codec, raw, num, fixed, ◌then◌, ◌on◌, named, checked, judged, asks, placed, sized, times, times_parse, among, distinct, distinct_parse, limited, counted, whole, boxed, is_nil, full, remainder}
use Rattle.codec.proofs.Laws.{bind_ok, need-ok, shifted-ok}
use Rattle.codec.specs.Lenient.{Lenient, lax, any_num}

-- nothing left out
pub lenient_same : {A : Type 0} (c : Codec A) → Lenient c c
lenient_same c = record { reads = λ base s i x j e. e }

-- ---- tests that are left out

pub lax-out : {A : Type 0} (test : A → Bool) (x : A) {light : Bool} → light ≡ true → lax light test x ≡ true
lax-out test x e = rw e

pub lax_in : {A : Type 0} (test : A → Bool) (x : A) {light : Bool} → light ≡ false → lax light test x ≡ test x
lax_in test x e = rw e

pub lenient_fixed : (k k' w b : ℕ) → Lenient (fixed k k' w b) (any_num k w b)
unfolding fixed any_num
lenient_fixed k k' w b = record {
  reads = λ base s i x j e.
      let (n, m, e1, e2) = bind_ok ((num k w).parse base s i) _ x j e in
      let (t, e3) = need-ok (eqb b n) k' i _ x j e2 in
      rw e1 e3;
}

module _ {A : Type 0} {c d : Codec A} (h : Lenient c d) where
  pub lenient_checked : (test : A → Bool) (k : ℕ) → Lenient (checked test k c) d
  unfolding checked
  lenient_checked test k = record {
    reads = λ base s i x j e.
        let (y, m, e1, e2) = bind_ok (c.parse base s i) _ x j e in
        let (t, e3) = need-ok (test y) k i _ x j e2 in
        rw (h.reads base s i y m e1) e3;
  }

  -- a test that passes more
  pub lenient_test : (test test' : A → Bool) → ((x : A) → test x ≡ true → test' x ≡ true) → (k : ℕ) → Lenient (checked test k c) (checked test' k d)
  unfolding checked
  lenient_test test test' f k = record {
    reads = λ base s i x j e.
        let (y, m, e1, e2) = bind_ok (c.parse base s i) _ x j e in
        let (t, e3) = need-ok (test y) k i _ x j e2 in
        rw (h.reads base s i y m e1, f y t) e3;
  }

  pub lenient_judged : (rules : A → ℕ) → Lenient (judged rules c) d
  unfolding judged
  lenient_judged rules = record {
    reads = λ base s i x j e.
        let (y, m, e1, e2) = bind_ok (c.parse base s i) _ x j e in
        let (t, e3) = need-ok (eqb 0 (rules y)) (rules y) 0 _ x j e2 in
        rw (h.reads base s i y m e1) e3;
  }

  -- ---- the same bytes

  pub lenient_asks : (k n : ℕ) → Lenient (asks k n c) (asks k n d)
  unfolding asks
  lenient_asks k n = record {
    reads = λ base s i x j e.
        let (t, e1) = need-ok (leb (i + n) (length s)) k i _ x j e in
        rw t (h.reads base s i x j e1);
  }

  pub lenient_named : {B : Type 0} (to : A → B) (from : B → A) → Lenient (named to from c) (named to from d)
  unfolding named
  lenient_named to from = record {
    reads = λ base s i x j e.
        let (y, m, e1, e2) = bind_ok (c.parse base s i) _ x j e in
        rw (h.reads base s i y m e1) e2;
  }

  pub lenient_placed : Lenient (placed c) (placed d)
  unfolding placed
  lenient_placed = record {
    reads = λ base s i x j e.
        let (y, m, e1, e2) = bind_ok (c.parse base s i) _ x j e in
        rw (h.reads base s i y m e1) e2;
  }

  -- ---- one after the other

  pub lenient_then : {B : Type 0} {c' d' : Codec B} → Lenient c' d' → Lenient (c then c') (d then d')
  unfolding ◌then◌
  lenient_then {c' = c'} h' = record {
    reads = λ base s i x j e.
        let (y, m, e1, e2) = bind_ok (c.parse base s i) _ x j e in
        let (z, n, e3, e4) = bind_ok (c'.parse base s m) _ x j e2 in
        rw (h.reads base s i y m e1, h'.reads base s m z n e3) e4;
  }

  pub lenient_on : {B : Type 0} {c' d' : A → Codec B} → ((x : A) → Lenient (c' x) (d' x)) → Lenient (c on c') (d on d')
  unfolding ◌on◌
  lenient_on {c' = c'} h' = record {
    reads = λ base s i x j e.
        let (y, m, e1, e2) = bind_ok (c.parse base s i) _ x j e in
        let (z, n, e3, e4) = bind_ok ((c' y).parse base s m) _ x j e2 in
        rw (h.reads base s i y m e1, (h' y).reads base s m z n e3) e4;
  }

  -- ---- n items

  times-reads : (n base : ℕ) (s : List ℕ) (i : ℕ) (xs : List A) (j : ℕ) → times_parse c n base s i ≡ ok xs j → times_parse d n base s i ≡ ok xs j
  times-reads zero base s i xs j e = e
  times-reads (suc n) base s i xs j e =
      let (y, m, e1, e2) = bind_ok (c.parse base s i) _ xs j e in
      let (ys, k, e3, e4) = bind_ok (times_parse c n base s m) _ xs j e2 in
      rw (h.reads base s i y m e1, times-reads n base s m ys k e3) e4

  pub lenient_times : (n : ℕ) → Lenient (times c n) (times d n)
  unfolding times
  lenient_times n = record { reads = times-reads n }

  keys_read : (key : A → ℕ) (k n : ℕ) (seen : List ℕ) (base : ℕ) (s : List ℕ) (i : ℕ) (xs : List A) (j : ℕ)
      → distinct_parse c key k n seen base s i ≡ ok xs j → distinct_parse d key k n seen base s i ≡ ok xs j
  keys_read key k zero seen base s i xs j e = e
  keys_read key k (suc n) seen base s i xs j e =
      let (y, m, e1, e2) = bind_ok (c.parse base s i) _ xs j e in
      let (t, e3) = need-ok (not (among (key y) seen)) k i _ xs j e2 in
      let (ys, q, e4, e5) = bind_ok (distinct_parse c key k n (key y ∷ seen) base s m) _ xs j e3 in
      rw (h.reads base s i y m e1, t, keys_read key k n (key y ∷ seen) base s m ys q e4) e5

  -- keys that differ
  pub lenient_keys : (key : A → ℕ) (k n : ℕ) → Lenient (distinct c key k n) (distinct d key k n)
  unfolding distinct
  lenient_keys key k n = record { reads = keys_read key k n _ }

  pub lenient_limited : (k k' w least : ℕ) → Lenient (limited c k k' w least) (limited d k k' w least)
  unfolding limited
  lenient_limited k k' w least = record {
    reads = λ base s i xs j e.
        let (n, m, e1, e2) = bind_ok ((num k w).parse base s i) _ xs j e in
        let (t, e3) = need-ok (leb n ((length s - m) / least)) k' i _ xs j e2 in
        rw (e1, t) (times-reads n base s m xs j e3);
  }

  -- ---- a part with a length of its own

  pub lenient_whole : (base : ℕ) (s : List ℕ) (z : A × List ℕ) (j : ℕ) → whole c base s ≡ ok z j → whole d base s ≡ ok z j
  unfolding whole
  lenient_whole base s z j e =
      let (y, m, e1, e2) = bind_ok (c.parse base s 0) _ z j e in
      rw (h.reads base s 0 y m e1) e2

  pub lenient_boxed : (k k' k'' w own least : ℕ) (inner : ℕ → ℕ) (spot spot' : (ℕ → List ℕ → Type 0) → A → Type 0) → Lenient (boxed k k' k'' w own least inner spot c) (boxed k k' k'' w own least inner spot' d)
  unfolding boxed
  lenient_boxed k k' k'' w own least inner spot spot' = record {
    reads = λ base s i z q e.
        let (n, j, e1, e2) = bind_ok ((num k w).parse base s i) _ z q e in
        let (t, e3) = need-ok (leb least n) k' i _ z q e2 in
        let (body, m, e4, e5) = bind_ok ((raw k'' (n - own)).parse base s j) _ z q e3 in
        let (y, p, e6, e7) = bind_ok (shifted j (whole c (inner (base + j)) body)) _ z q e5 in
        rw (e1, t, e4, lenient_whole (inner (base + j)) body y p (shifted-ok j (whole c (inner (base + j)) body) y p e6)) e7;
  }

  pub lenient_remainder : Lenient (remainder c) (remainder d)
  unfolding remainder
  lenient_remainder = record {
    reads = λ base s i x j e.
        let (y, m, e1, e2) = bind_ok (shifted i (c.parse (base + i) (drop i s) 0)) _ x j e in
        rw (h.reads (base + i) (drop i s) 0 y m (shifted-ok i (c.parse (base + i) (drop i s) 0) y m e1)) e2;
  }

-- a number that says how the rest is read
pub lenient_sized : {A : Type 0} (k w : ℕ) (size : A → ℕ) {c d : ℕ → Codec A} → ((n : ℕ) → Lenient (c n) (d n)) → Lenient (sized k w size c) (sized k w size d)
unfolding sized
lenient_sized k w size {c} {d} h = record {
  reads = λ base s i x j e.
      let (n, m, e1, e2) = bind_ok ((num k w).parse base s i) _ x j e in
      rw e1 ((h n).reads base s m x j e2);
}

pub lenient_counted : {A : Type 0} {c d : Codec A} → Lenient c d → (k : ℕ) → Lenient (counted c k) (counted d k)
unfolding counted
lenient_counted h k = lenient_sized k 2 length (λ n. lenient_times h n)

-- nothing may be left over, there either
pub lenient_full : {A : Type 0} {c d : Codec (A × List ℕ)} → Lenient c d → (k : ℕ) → Lenient (full k c) (full k d)
unfolding full
lenient_full {c = c} h k = record {
  reads = λ base s i x j e.
      let (z, m, e1, e2) = bind_ok (c.parse base s i) _ x j e in
      let (t, e3) = need-ok (is_nil z.1) k (m - length z.1) _ x j e2 in
      rw (h.reads base s i z m e1, t) e3;
}
