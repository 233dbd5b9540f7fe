-- What a reader of rows meets, combinator by combinator: items, pairs, counts and numbers. Assumes nothing.
use Prim.Native.Nat.{ℕ, zero, suc, ◌+◌, ◌-◌, ◌≤◌, ◌<◌}
use native.Mathlib.Omega.{arith}
use Rattle.std.specs.Prelude.{◌≡◌, List, [], ◌∷◌, ◌++◌, map, Ok, Err}
use Rattle.std.proofs.Math.Path.{refl}
use Rattle.std.proofs.Common.{ap}
use Rattle.std.proofs.Math.ListN.{length}
use Rattle.refusal.specs.declared.Refusal.{Refusal}
use Rattle.codec.specs.Codec.{Res, ok, refuse, ◌>>=◌, Codec, num, times_parse}
use Rattle.numbers.specs.Numbers.{num_at, Got}
use Rattle.numbers.specs.NumberLaws.{num_of, num-is}
use Rattle.table.specs.Table.{Out, From, ◌and_then◌, each_from, said, row, seq, seq_from, on_got}

-- ---- n items, row by row

-- one row each; `all` has the rows of items from row m on
module _ {A : Type 0} (c : Codec A) (f : A → ℕ → List ℕ) (all : List A → From) (none : (m : ℕ) → all [] m ≡ []) (more : (x : A) (xs : List A) (m : ℕ) → all (x ∷ xs) m ≡ f x m ∷ all xs (m + 1)) (base : ℕ) (s : List ℕ) (m : ℕ) where
  rows-tail : (x : A) (r : Res (List A)) → said (λ xs. all xs m) (r >>= λ xs k. ok (x ∷ xs) k) ≡ row (f x m) (said (λ xs. all xs (m + 1)) r)
  rows-tail x (ok xs k) = rw (more x xs m)
  rows-tail x (refuse k) = refl

  pub rows_end : (n at : ℕ) → n ≤ 0 → said (λ xs. all xs m) (times_parse c n base s at) ≡ ok [] at
  rows_end zero at h = rw (none m)
  rows_end (suc n) at h = let z : ⊥ = omega arith in absurd z

  pub rows_row : (n at : ℕ) {x : A} {p : ℕ} → 0 < n → c.parse base s at ≡ ok x p
      → said (λ xs. all xs m) (times_parse c n base s at) ≡ row (f x m) (said (λ xs. all xs (m + 1)) (times_parse c (n - 1) base s p))
  rows_row zero at h e = let z : ⊥ = omega arith in absurd z
  rows_row (suc n) at {x} {p} h e = let k : suc n - 1 ≡ n = omega arith in rw (e, k) (rows-tail x (times_parse c n base s p))

  pub rows-no : (n at : ℕ) {k : Refusal} → 0 < n → c.parse base s at ≡ refuse k → said (λ xs. all xs m) (times_parse c n base s at) ≡ refuse k
  rows-no zero at h e = let z : ⊥ = omega arith in absurd z
  rows-no (suc n) at h e = rw e

-- rows that tell no index
module _ {A : Type 0} (c : Codec A) (f : A → List ℕ) (base : ℕ) (s : List ℕ) where
  pub items_end : (n at : ℕ) → n ≤ 0 → said (map f) (times_parse c n base s at) ≡ ok [] at
  items_end n at h = rows_end c (λ x _. f x) (λ xs _. map f xs) (λ _. refl) (λ x xs _. refl) base s 0 n at h

  pub items_row : (n at : ℕ) {x : A} {p : ℕ} → 0 < n → c.parse base s at ≡ ok x p
      → said (map f) (times_parse c n base s at) ≡ row (f x) (said (map f) (times_parse c (n - 1) base s p))
  items_row n at h e = rows_row c (λ x _. f x) (λ xs _. map f xs) (λ _. refl) (λ x xs _. refl) base s 0 n at h e

  pub items_no : (n at : ℕ) {k : Refusal} → 0 < n → c.parse base s at ≡ refuse k → said (map f) (times_parse c n base s at) ≡ refuse k
  items_no n at h e = rows-no c (λ x _. f x) (λ xs _. map f xs) (λ _. refl) (λ x xs _. refl) base s 0 n at h e

-- several rows each
module _ {A : Type 0} (c : Codec A) (f : A → From) (base : ℕ) (s : List ℕ) (m : ℕ) where
  pub each-run : (n at : ℕ) → 0 < n → said (λ xs. each_from f xs m) (times_parse c n base s at) ≡ seq_from m (said (λ x. f x m) (c.parse base s at)) (λ k p. said (λ xs. each_from f xs k) (times_parse c (n - 1) base s p))
  unfolding seq_from
  each-run zero at h = let z : ⊥ = omega arith in absurd z
  each-run (suc n) at h = let k : suc n - 1 ≡ n = omega arith in rw k (go (c.parse base s at))
    where
      tail : (x : A) (r : Res (List A)) → said (λ xs. each_from f xs m) (r >>= λ xs k. ok (x ∷ xs) k) ≡ (said (λ xs. each_from f xs (m + length (f x m))) r >>= λ qs q. ok (f x m ++ qs) q)
      tail x (ok xs k) = refl
      tail x (refuse k) = refl

      go : (r : Res A) → said (λ xs. each_from f xs m) (r >>= λ x j. times_parse c n base s j >>= λ xs k. ok (x ∷ xs) k)
          ≡ ((said (λ x. f x m) r) >>= λ rs p. said (λ xs. each_from f xs (m + length rs)) (times_parse c n base s p) >>= λ qs q. ok (rs ++ qs) q)
      go (ok x j) = tail x (times_parse c n base s j)
      go (refuse k) = refl

  pub each-end : (n at : ℕ) → n ≤ 0 → said (λ xs. each_from f xs m) (times_parse c n base s at) ≡ ok [] at
  each-end zero at h = refl
  each-end (suc n) at h = let z : ⊥ = omega arith in absurd z

-- ---- one after the other

-- one format and then another
abbrev pub both : {A B : Type 0} → Res A → (ℕ → Res B) → Res (A × B)
both {A} {B} r g = ◌>>=◌ {A = A} {B = A × B} r (λ x j. g j >>= λ y k. ok (x, y) k)

pub both-from : {A B : Type 0} (f : A → From) (h : B → From) (m : ℕ) (r : Res A) (g : ℕ → Res B)
    → said (λ z. (f z.0 and_then h z.1) m) (both r g) ≡ seq_from m (said (λ x. f x m) r) (λ k q. said (λ y. h y k) (g q))
unfolding seq_from
both-from {A} {B} f h m (ok x j) g = go (g j)
  where
    go : (r : Res B) → said (λ z. (f z.0 and_then h z.1) m) (◌>>=◌ {B = A × B} r λ y k. ok (x, y) k) ≡ (said (λ y. h y (m + length (f x m))) r >>= λ qs q. ok (f x m ++ qs) q)
    go (ok y k) = refl
    go (refuse k) = refl
both-from f h m (refuse k) g = refl

pub both-seq : {A B : Type 0} (f : A → List (List ℕ)) (h : B → List (List ℕ)) (r : Res A) (g : ℕ → Res B)
    → said (λ z. f z.0 ++ h z.1) (both r g) ≡ seq (said f r) (λ q. said h (g q))
unfolding seq seq_from
both-seq f h r g = both-from (λ x _. f x) (λ y _. h y) 0 r g

-- the same bytes under another name
pub said-named : {A B : Type 0} (f : B → List (List ℕ)) (to : A → B) (r : Res A) → said f (r >>= λ x j. ok (to x) j) ≡ said (λ x. f (to x)) r
said-named f to (ok x j) = refl
said-named f to (refuse k) = refl

pub from-same : (m : ℕ) (o : Out) (f g : ℕ → ℕ → Out) → ((k p : ℕ) → f k p ≡ g k p) → seq_from m o f ≡ seq_from m o g
unfolding seq_from
from-same m (ok rs p) f g h = rw (h (m + length rs) p)
from-same m (refuse k) f g h = refl

pub seq-same : (o : Out) (f g : ℕ → Out) → ((p : ℕ) → f p ≡ g p) → seq o f ≡ seq o g
unfolding seq seq_from
seq-same o f g h = from-same 0 o (λ _ p. f p) (λ _ p. g p) (λ _ p. h p)

-- a row that tells a number of what follows
pub said_row : {A : Type 0} (h : ℕ → List ℕ) (f : A → List (List ℕ)) (size : A → ℕ) (count : ℕ) (r : Res A) → ((x : A) (j : ℕ) → r ≡ ok x j → size x ≡ count)
    → said (λ x. h (size x) ∷ f x) r ≡ row (h count) (said f r)
said_row h f size count (ok x j) l = ap (λ m. ok (h m ∷ f x) j) (l x j refl)
said_row h f size count (refuse k) l = refl

-- a count, and what it counts
module _ {A : Type 0} (why w : ℕ) (h : ℕ → List ℕ) (f : A → List (List ℕ)) (size : A → ℕ) (base : ℕ) (s : List ℕ) (at : ℕ) (c : ℕ → ℕ → Res A)
    (l : (n p : ℕ) (x : A) (j : ℕ) → c n p ≡ ok x j → size x ≡ n) where
  pub count-row : said (λ x. h (size x) ∷ f x) ((num why w).parse base s at >>= c) ≡ on_got (num_at why w s at) (λ count p. row (h count) (said f (c count p)))
  count-row = rw (num-is why w s at base) (go (num_at why w s at))
    where
      go : (g : Got) → said (λ x. h (size x) ∷ f x) (num_of g >>= c) ≡ on_got g (λ count p. row (h count) (said f (c count p)))
      go (Ok (count, p)) = said_row h f size count (c count p) (l count p)
      go (Err k) = refl

-- a number first
module _ {A : Type 0} (f : A → List (List ℕ)) (base : ℕ) (s : List ℕ) (at : ℕ) where
  pub said-num : (why w : ℕ) (c : ℕ → ℕ → Res A) (o : ℕ → ℕ → Out) → ((v p : ℕ) → said f (c v p) ≡ o v p) → said f ((num why w).parse base s at >>= c) ≡ on_got (num_at why w s at) o
  said-num why w c o h = rw (num-is why w s at base) (go (num_at why w s at))
    where
      go : (g : Got) → said f (num_of g >>= c) ≡ on_got g o
      go (Ok (v, p)) = h v p
      go (Err k) = refl

-- ---- one reader's rows, and then another's

pub seq-ok : (rs : List (List ℕ)) (p : ℕ) (f : ℕ → Out) → seq (ok rs p) f ≡ (f p >>= λ qs q. ok (rs ++ qs) q)
unfolding seq
seq-ok rs p f = refl

pub seq-no : (k : Refusal) (f : ℕ → Out) → seq (refuse k) f ≡ refuse k
unfolding seq
seq-no k f = refl

-- ---- by a test
