-- What the bytes of a value are read as that is well sized and may fail a test: the value, or the number of its first fault in wire order.
-- One law for each way to build a format.
-- Assumes nothing.
use Prim.Native.Nat.{ℕ, zero, suc, ◌+◌, ◌-◌, ◌*◌, ◌/◌, ◌^◌, ◌≤◌, ◌<◌, zero-le}
use Rattle.std.proofs.Math.Nat.{div-zero, le_trans, zero-add}
use Rattle.std.proofs.Common.{le-div_iff_mul-le, zero-lt-suc, add-zero, add_assoc, arith, sym, ap, ap₂, ◌∙◌, subst}
use Rattle.std.specs.Prelude.{◌≡◌, Bool, true, false, ◌||◌, drop, leb}
use Rattle.std.proofs.Math.Path.{refl}
use mathlib.Core.List.{List, [], ◌∷◌, ◌++◌, append-nil}
use Rattle.std.proofs.Math.ListN.{length, length-append}
use Rattle.std.proofs.Math.Seq.{drop-append_seam}
use Rattle.std.proofs.Math.Dec.{ltb, eqb, eqb-zero-suc, leb-suc-zero}
use borrow.Author.Tests.{le-leb, leb-true, lt-ltb}
use Rattle.codec.specs.Codec.{Res, ok, refuse, ◌>>=◌, need, shifted, fault_of, Bytes, Codec, raw, little, num, ◌then◌, ◌on◌, named, checked, judged, asks, placed, sized, times, times_parse, times_print, times_locate, TimesLegal, limited, whole, boxed, full, remainder}
use Rattle.codec.proofs.Laws.{Here, here-room, here-left, here-right, Law, raw-reads, law-raw, law-num, length-little, times_big}
use Rattle.codec.specs.Faults.{unless, first, first_of, Every, first_some, first-end, first-zero, unless-zero}

-- ---- the law

-- reading gives q where k is 0, and is refused by number k where it is not
pub record Told {A : Type 0} (k : ℕ) (r q : Res A) : Type 0 where
  pub fine : k ≡ 0 → r ≡ q
  pub number : fault_of r ≡ k

-- `Sized` says that lengths and numbers fit, so that reading goes to the same places whatever the tests say; `fault` is 0, or
-- the number of the first test that fails, in wire order
pub record Faults {A : Type 0} (c : Codec A) (Sized : A → Type 0) (fault : A → ℕ) : Type 0 where
  -- the bytes of a well sized value are refused by its fault, or read as that value, with its places
  pub told : (base : ℕ) (s : List ℕ) (i : ℕ) (x : A) (post : List ℕ) → Sized x → Here s i (c.print x) post
      → Told (fault x) (c.parse base s i) (ok (c.locate (base + i) x) (i + length (c.print x)))
  -- a well sized value without a fault is legal
  pub legal : (x : A) → Sized x → fault x ≡ 0 → c.legal x

module _ {A : Type 0} where
  -- what is read for sure
  pub sure : {r : Res A} {x : A} {j : ℕ} → r ≡ ok x j → Told 0 r (ok x j)
  sure e = record { fine = λ _. e; number = ap fault_of e }

  -- a list of its own: the numbers are its numbers
  shifted-told : (p : ℕ) {k : ℕ} {r : Res A} {x : A} {j : ℕ} → Told k r (ok x j) → Told k (shifted p r) (ok x j)
  shifted-told p {r = r} t = record { fine = λ e. ap (shifted p) (t.fine e); number = same r ∙ t.number }
    where
      same : (r : Res A) → fault_of (shifted p r) ≡ fault_of r
      same (ok x j) = refl
      same (refuse k) = refl

-- a test
pub need-told : (t : Bool) (k i : ℕ) → 0 < k → Told (unless t k) (need t k i) (ok tt i)
need-told true k i pos = sure refl
need-told false k i pos = record { fine = λ e. absurd (omega arith); number = refl }

rules_told : (k i : ℕ) → Told k (need (eqb 0 k) k i) (ok tt i)
rules_told zero i = sure refl
rules_told (suc k) i = record { fine = λ e. absurd (omega arith); number = rw (eqb-zero-suc k) }

module _ {A B : Type 0} (f : A → ℕ → Res B) where
  -- one after the other; what follows is asked only where the first has no fault
  pub when_told : (k k' : ℕ) {r : Res A} {x : A} {j : ℕ} {q : Res B} → Told k r (ok x j) → (k ≡ 0 → Told k' (f x j) q) → Told (first k k') (r >>= f) q
  when_told zero k' t u = rw (t.fine refl) (u refl)
  when_told (suc k) k' {r} {q = q} t u = rw (first_some k k') (go r t.number)
    where
      go : (r : Res A) → fault_of r ≡ suc k → Told (suc k) (r >>= f) q
      go (ok x j) e = absurd (omega arith)
      go (refuse n) e = record { fine = λ z. absurd (omega arith); number = e }

  pub bind_told : (k k' : ℕ) {r : Res A} {x : A} {j : ℕ} {q : Res B} → Told k r (ok x j) → Told k' (f x j) q → Told (first k k') (r >>= f) q
  bind_told k k' t u = when_told k k' t (λ _. u)

  -- what follows is for sure
  pub then-told : (k : ℕ) {r : Res A} {x : A} {j : ℕ} {y : B} {m : ℕ} → Told k r (ok x j) → f x j ≡ ok y m → Told k (r >>= f) (ok y m)
  then-told k {r} {y = y} {m} t e = subst (λ n. Told n (r >>= f) (ok y m)) (first-end k) (bind_told k 0 t (sure e))

-- what is read after w bytes a, with the places that it has there
after : {A : Type 0} {k : ℕ} {r : Res A} (at : ℕ → A) (base i w : ℕ) (a u : List ℕ) → length a ≡ w → Told k r (ok (at (base + (i + length a))) (i + length a + length u)) → Told k r (ok (at (base + i + w)) (i + length (a ++ u)))
after {k = k} {r} at base i w a u e t = subst (λ q. Told k r q) (ap₂ (λ m n. ok (at m) n) (omega arith) (simp (length-append, add_assoc))) t

-- ---- a format without tests, and the same law in other words

-- legal values are read, and have no fault
pub faults_none : {A : Type 0} {c : Codec A} → Law c → Faults c c.legal (λ x. 0)
faults_none lc = record { told = λ base s i x post lg h. sure (lc.reads base s i x post lg h); legal = λ x lg e. lg }

pub faults_as : {A : Type 0} {c : Codec A} {S : A → Type 0} {f : A → ℕ} (T : A → Type 0) (g : A → ℕ) → ((x : A) → T x → S x) → ((x : A) → f x ≡ g x) → Faults c S f → Faults c T g
faults_as {c = c} T g into same F = record {
  told = λ base s i x post z h. rw (sym (same x)) (F.told base s i x post (into x z) h);
  legal = λ x z e. F.legal x (into x z) (same x ∙ e);
}

-- ---- one after the other

module _ {A B : Type 0} {c : Codec A} {S : A → Type 0} {f : A → ℕ} (F : Faults c S f) where
  -- what follows may depend on what was read, but not on its places
  pub faults_on : {d : A → Codec B} {T : A → B → Type 0} {g : A → B → ℕ} → ((p : ℕ) (x : A) → d (c.locate p x) ≡ d x) → ((x : A) → Faults (d x) (T x) (g x))
      → Faults (c on d) (λ z. S z.0 × T z.0 z.1) (λ z. first (f z.0) (g z.0 z.1))
  unfolding ◌on◌
  faults_on {d} {T} {g} still G = record {
    told = λ base s i z post lg h.
        let u : List ℕ = c.print z.0 in
        let v : List ℕ = (d z.0).print z.1 in
        after (λ m. (c.locate (base + i) z.0, (d z.0).locate m z.1)) base i (length u) u v refl
        (bind_told _ (f z.0) (g z.0 z.1) (F.told base s i z.0 (v ++ post) lg.0 (here-left u v post h))
        (rw (still (base + i) z.0) (then-told _ (g z.0 z.1) ((G z.0).told base s (i + length u) z.1 post lg.1 (here-right u v post h)) refl)));
    legal = λ z lg e.
        let (a, b) = first-zero (f z.0) (g z.0 z.1) e in
        (F.legal z.0 lg.0 a, (G z.0).legal z.1 lg.1 b);
  }

  pub faults_then : {d : Codec B} {T : B → Type 0} {g : B → ℕ} → Faults d T g → Faults (c then d) (λ z. S z.0 × T z.1) (λ z. first (f z.0) (g z.1))
  unfolding ◌then◌ ◌on◌
  faults_then G = let H = faults_on (λ p x. refl) (λ x. G) in record { told = H.told; legal = H.legal }

-- ---- under another name, with a place, with a test that does not look at places

module _ {A : Type 0} {c : Codec A} {S : A → Type 0} {f : A → ℕ} (F : Faults c S f) where
  pub faults_named : {B : Type 0} (to : A → B) (from : B → A) → Faults (named to from c) (λ y. S (from y)) (λ y. f (from y))
  unfolding named
  faults_named to from = record {
    told = λ base s i y post lg h. then-told _ (f (from y)) (F.told base s i (from y) post lg h) refl;
    legal = λ y. F.legal (from y);
  }

  pub faults_placed : Faults (placed c) (λ z. S z.1) (λ z. f z.1)
  unfolding placed
  faults_placed = record {
    told = λ base s i z post lg h. then-told _ (f z.1) (F.told base s i z.1 post lg h) refl;
    legal = λ z. F.legal z.1;
  }

  pub faults_checked : (test : A → Bool) (k : ℕ) → 0 < k → ((p : ℕ) (x : A) → test (c.locate p x) ≡ test x) → Faults (checked test k c) S (λ x. first (f x) (unless (test x) k))
  unfolding checked
  faults_checked test k pos still = record {
    told = λ base s i x post lg h.
        bind_told _ (f x) (unless (test x) k) (F.told base s i x post lg h) (rw (still (base + i) x) (then-told _ (unless (test x) k) (need-told (test x) k i pos) refl));
    legal = λ x lg e.
        let (a, b) = first-zero (f x) (unless (test x) k) e in
        (F.legal x lg a, unless-zero (test x) k pos b);
  }

  pub faults_judged : (rules : A → ℕ) → ((p : ℕ) (x : A) → rules (c.locate p x) ≡ rules x) → Faults (judged rules c) S (λ x. first (f x) (rules x))
  unfolding judged
  faults_judged rules still = record {
    told = λ base s i x post lg h. bind_told _ (f x) (rules x) (F.told base s i x post lg h) (rw (still (base + i) x) (then-told _ (rules x) (rules_told (rules x) 0) refl));
    legal = λ x lg e.
        let (a, b) = first-zero (f x) (rules x) e in
        (F.legal x lg a, rw b);
  }

  -- enough bytes are left where all values have them
  pub faults_asks : (k n : ℕ) → ((x : A) → S x → n ≤ length (c.print x)) → Faults (asks k n c) S f
  unfolding asks
  faults_asks k n much = record {
    told = λ base s i x post lg h.
        let r : i + n ≤ length s = omega (arith, here-room (c.print x) post h, much x lg) in
        rw (le-leb (i + n) (length s) r) (F.told base s i x post lg h);
    legal = F.legal;
  }

-- a number that says how the rest is read
pub faults_sized : {A : Type 0} {c : ℕ → Codec A} {S : ℕ → A → Type 0} {f : ℕ → A → ℕ} (k w : ℕ) (size : A → ℕ) → ((n : ℕ) → Faults (c n) (S n) (f n))
    → Faults (sized k w size c) (λ x. (size x < 256 ^ w) × S (size x) x) (λ x. f (size x) x)
unfolding sized num
faults_sized {c = c} k w size F = record {
  told = λ base s i x post lg h.
      let a : List ℕ = little w (size x) in
      let u : List ℕ = (c (size x)).print x in
      rw ((law-num k w).reads base s i (size x) (u ++ post) lg.0 (here-left a u post h))
      (after (λ m. (c (size x)).locate m x) base i w a u (length-little w (size x)) ((F (size x)).told base s (i + length a) x post lg.1 (here-right a u post h)));
  legal = λ x lg e. (lg.0, (F (size x)).legal x lg.1 e);
}

-- ---- n items

-- n items of at least `least` bytes fit into m bytes, unless there are some and they have none
crowded : (n least m : ℕ) → n * least ≤ m → leb n (m / least) ≡ (ltb 0 least || eqb 0 n)
crowded zero zero m h = rw div-zero
crowded (suc n) zero m h = rw (div-zero, leb-suc-zero, eqb-zero-suc)
crowded n (suc v) m h = rw (le-leb n (m / suc v) ((le-div_iff_mul-le (zero-lt-suc v)).1 h), lt-ltb 0 (suc v) (zero-lt-suc v))

module _ {A : Type 0} {c : Codec A} {S : A → Type 0} {f : A → ℕ} (F : Faults c S f) where
  times-told : (xs : List A) (base : ℕ) (s : List ℕ) (i : ℕ) (post : List ℕ) → Every S xs → Here s i (times_print c xs) post
      → Told (first_of f xs) (times_parse c (length xs) base s i) (ok (times_locate c (base + i) xs) (i + length (times_print c xs)))
  times-told [] base s i post lg h = sure (ap (ok []) (sym (add-zero i)))
  times-told (x ∷ xs) base s i post lg h =
      let u : List ℕ = c.print x in
      let v : List ℕ = times_print c xs in
      after (λ m. c.locate (base + i) x ∷ times_locate c m xs) base i (length u) u v refl
      (bind_told _ (f x) (first_of f xs) (F.told base s i x (v ++ post) lg.0 (here-left u v post h))
      (then-told _ (first_of f xs) (times-told xs base s (i + length u) post lg.1 (here-right u v post h)) refl))

  times-legal : (xs : List A) → Every S xs → first_of f xs ≡ 0 → TimesLegal c xs
  times-legal [] lg e = tt
  times-legal (x ∷ xs) lg e =
      let (a, b) = first-zero (f x) (first_of f xs) e in
      (F.legal x lg.0 a, times-legal xs lg.1 b)

  pub faults_times : (n : ℕ) → Faults (times c n) (λ xs. (length xs ≡ n) × Every S xs) (first_of f)
  unfolding times
  faults_times n = record {
    told = λ base s i xs post lg h. rw (sym lg.0) (times-told xs base s i post lg.1 h);
    legal = λ xs lg e. (lg.0, times-legal xs lg.1 e);
  }

  -- a count: k' where there are items of no bytes, as `least` 0 says
  module _ (least : ℕ) (big : (x : A) → S x → least ≤ length (c.print x)) where
    room : (xs : List A) → Every S xs → length xs * least ≤ length (times_print c xs)
    room = times_big c (Every S) least (λ x xs lg. (big x lg.0, lg.1))

    pub faults_limited : (k k' w : ℕ) → 0 < k'
        → Faults (limited c k k' w least) (λ xs. (length xs < 256 ^ w) × Every S xs) (λ xs. first (unless (ltb 0 least || eqb 0 (length xs)) k') (first_of f xs))
    unfolding limited num
    faults_limited k k' w pos = record {
      told = λ base s i xs post lg h.
          let a : List ℕ = little w (length xs) in
          let u : List ℕ = times_print c xs in
          let hr = here-right a u post h in
          let j : ℕ = i + length a in
          let fits : length xs * least ≤ length s - j = le_trans (room xs lg.1) (omega (arith, here-room u post hr)) in
          let t = ltb 0 least || eqb 0 (length xs) in
          rw ((law-num k w).reads base s i (length xs) (u ++ post) lg.0 (here-left a u post h), crowded (length xs) least (length s - j) fits)
          (after (λ m. times_locate c m xs) base i w a u (length-little w (length xs))
          (bind_told _ (unless t k') (first_of f xs) (need-told t k' i pos) (times-told xs base s j post lg.1 hr)));
      legal = λ xs lg e.
          let t = ltb 0 least || eqb 0 (length xs) in
          let (a, b) = first-zero (unless t k') (first_of f xs) e in
          let fits = crowded (length xs) least (length (times_print c xs)) (room xs lg.1) in
          (lg.0, times-legal xs lg.1 b, leb-true (length xs) (length (times_print c xs) / least) (fits ∙ unless-zero t k' pos a));
    }

    -- items of some bytes always fit
    pub faults_filled : (k k' w : ℕ) → 0 < k' → 0 < least → Faults (limited c k k' w least) (λ xs. (length xs < 256 ^ w) × Every S xs) (first_of f)
    faults_filled k k' w pos much = faults_as _ _ (λ xs z. z) (λ xs. rw (lt-ltb 0 least much)) (faults_limited k k' w pos)

-- ---- a part with a length of its own

module _ {A : Type 0} {c : Codec A} {S : A → Type 0} {f : A → ℕ} (F : Faults c S f) where
  -- a value and any bytes after it
  pub whole-told : (base : ℕ) (x : A) (rest : List ℕ) → S x
      → Told (f x) (whole c base (c.print x ++ rest)) (ok (c.locate base x, rest) (length (c.print x ++ rest)))
  unfolding whole
  whole-told base x rest lg =
      then-told _ (f x) (F.told base (c.print x ++ rest) 0 x rest lg (record { inside = zero-le; bytes = refl })) (rw (add-zero, zero-add, drop-append_seam (c.print x) rest))

  pub faults_remainder : Faults (remainder c) S f
  unfolding remainder
  faults_remainder = record {
    told = λ base s i x post lg h.
        then-told _ (f x) (shifted-told i (F.told (base + i) (drop i s) 0 x post lg (record { inside = zero-le; bytes = h.bytes }))) (rw (add-zero, zero-add));
    legal = F.legal;
  }

  -- every value has the bytes that its length must count
  pub faults_boxed : (k k' k'' w own least : ℕ) (inner : ℕ → ℕ) (spot : (ℕ → List ℕ → Type 0) → A → Type 0) → ((x : A) → S x → least ≤ own + length (c.print x))
      → Faults (boxed k k' k'' w own least inner spot c) (λ z. S z.0 × Bytes z.1 × (own + length (c.print z.0 ++ z.1) < 256 ^ w)) (λ z. f z.0)
  unfolding boxed num raw
  faults_boxed k k' k'' w own least inner spot much = record {
    told = λ base s i z post lg h.
        let u : List ℕ = c.print z.0 ++ z.1 in
        let a : List ℕ = little w (own + length u) in
        let few : least ≤ own + length u = omega (arith, much z.0 lg.0, length-append (c.print z.0) z.1) in
        rw (
          (law-num k w).reads base s i (own + length u) (u ++ post) lg.2 (here-left a u post h),
          le-leb least (own + length u) few,
          raw-reads k'' (own + length u - own) base s (i + length a) u post (omega arith) (here-right a u post h),
        )
        (after (λ m. (c.locate (inner m) z.0, z.1)) base i w a u (length-little w (own + length u))
        (then-told _ (f z.0) (shifted-told (i + length a) (whole-told (inner (base + (i + length a))) z.0 z.1 lg.0)) refl));
    legal = λ z lg e. (F.legal z.0 lg.0 e, lg.1, lg.2);
  }

-- nothing is left over: k never comes
pub faults_full : {A : Type 0} {c : Codec (A × List ℕ)} {S : A × List ℕ → Type 0} {f : A × List ℕ → ℕ} (k : ℕ)
    → ((p : ℕ) (z : A × List ℕ) → (c.locate p z).1 ≡ z.1) → Faults c S f → Faults (full k c) (λ x. S (x, [])) (λ x. f (x, []))
unfolding full
faults_full {f = f} k kept F = record {
  told = λ base s i x post lg h. then-told _ (f (x, [])) (F.told base s i (x, []) post lg h) (rw (kept (base + i) (x, [])));
  legal = λ x. F.legal (x, []);
}

-- ---- what formats are built of most

-- bytes that pass one test and then another
pub faults_raw_tests : (test : List ℕ → Bool) (k' : ℕ) (test' : List ℕ → Bool) (k'' k n : ℕ) → 0 < k' → 0 < k''
    → Faults (checked test' k'' (checked test k' (raw k n))) (λ x. (length x ≡ n) × Bytes x) (λ x. first (unless (test x) k') (unless (test' x) k''))
unfolding checked raw
faults_raw_tests test k' test' k'' k n pos pos' = faults_checked (faults_checked (faults_none (law-raw k n)) test k' pos (λ p x. refl)) test' k'' pos' (λ p x. refl)

-- a number that passes a test
pub faults_num_test : (test : ℕ → Bool) (k' k w : ℕ) → 0 < k' → Faults (checked test k' (num k w)) (λ n. n < 256 ^ w) (λ n. unless (test n) k')
unfolding num
faults_num_test test k' k w pos = faults_checked (faults_none (law-num k w)) test k' pos (λ p x. refl)

-- contents that span a length of their own
pub faults_spanned : {A : Type 0} {c : Codec A} {S : A → Type 0} {f : A → ℕ} (k j m w : ℕ) → Faults c S f
    → Faults (full k (boxed j j m w 0 0 (λ p. p) c.each c)) (λ x. S x × (length (c.print x) < 256 ^ w)) f
unfolding boxed
faults_spanned {c = c} {f = f} k j m w F =
    faults_as _ _ (λ x z. (z.0, (λ _. omega arith), rw (append-nil, zero-add) z.1)) (λ x. refl) (faults_full k (λ p z. refl) (faults_boxed F j j m w 0 0 (λ p. p) c.each (λ x z. zero-le)))
