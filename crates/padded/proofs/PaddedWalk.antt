-- Bytes with the ones before, in parts and all at once; texts of a width one after the other; a NUL among bytes. Assumes nothing.
use Prim.Native.Nat.{ℕ, zero, suc, ◌+◌, ◌-◌, ◌≤◌, ◌<◌}
use native.Mathlib.Nat.{zero-add, suc-add, add-zero}
use native.Mathlib.Numerals.{add-one}
use native.Mathlib.Omega.{arith}
use mathlib.Core.Path.{◌≡◌, refl, sym, ap, ◌∙◌}
use mathlib.Core.Bool.{Bool, true, false, ◌&&◌, ◌||◌, or_assoc, or-false}
use mathlib.Core.List.{List, [], ◌∷◌}
use lib.Dec.{ltb, eqb, eqb-suc-zero, eqb-zero-suc}
use lib.ListN.{length, get_or, drop, drop_of_length-le}
use lib.Seq.{drop-cons, drop-drop, get_or-drop}
use borrow.Author.Tests.{lt-ltb, le-ltb}
use Rattle.codec.specs.Codec.{among}
use Rattle.text.specs.Ascii.{ascii}
use Rattle.text.specs.AndLaws.{and_left, and_true, and_false, and_join}
use Rattle.padded.specs.Padded.{nul_padded}
use Rattle.padded.specs.Pairs.{good_pair, good_pairs, good_text}

-- ---- in parts

-- the first n, and m more
pairs_add : (n m : ℕ) (s : List ℕ) → good_pairs (n + m) s ≡ (good_pairs n s && good_pairs m (drop n s))
pairs_add zero m s = rw (zero-add m)
pairs_add (suc n) m s =
    let place : 1 + n ≡ suc n = omega arith in
    rw (suc-add n m, pairs_add n m (drop 1 s), drop-drop n 1 s, place) (and_join (good_pair (get_or s 0 0) (get_or s 1 0)) (good_pairs n (drop 1 s)) (good_pairs m (drop (suc n) s)))

-- the byte at k
byte_at : (s : List ℕ) (k : ℕ) → get_or (drop k s) 0 0 ≡ get_or s k 0
byte_at s k = get_or-drop k s 0 0 ∙ ap (λ p. get_or s p 0) (add-zero k)

-- the first of them
pairs_step : (s : List ℕ) (k m : ℕ) → good_pairs (suc m) (drop k s) ≡ (good_pair (get_or s k 0) (get_or s (k + 1) 0) && good_pairs m (drop (k + 1) s))
pairs_step s k m = rw (byte_at s k, get_or-drop k s 1 0, drop-drop 1 k s)

-- one more of the n from a on
pub pairs_one : (s : List ℕ) (a n j : ℕ) (x : Bool) → j < n
    → (x && good_pairs (n - j) (drop (a + j) s)) ≡ ((x && good_pair (get_or s (a + j) 0) (get_or s (a + j + 1) 0)) && good_pairs (n - (j + 1)) (drop (a + (j + 1)) s))
pairs_one s a n j x h =
    let left : n - j ≡ suc (n - (j + 1)) = omega arith in
    let place : a + (j + 1) ≡ a + j + 1 = omega arith in
    rw (left, place) (ap (λ y. x && y) (pairs_step s (a + j) (n - (j + 1))) ∙ and_join x (good_pair (get_or s (a + j) 0) (get_or s (a + j + 1) 0)) (good_pairs (n - (j + 1)) (drop (a + j + 1) s)))

pub pairs_none : (x : Bool) (s : List ℕ) (n j : ℕ) → n ≤ j → (x && good_pairs (n - j) s) ≡ x
pairs_none x s n j h = let none : n - j ≡ 0 = omega arith in rw none (and_true x)

-- ---- all at once

-- a byte, and those after it
pairs_all : (b : ℕ) (t : List ℕ) → (ascii (b ∷ t) && nul_padded (b ∷ t)) ≡ (ltb b 128 && good_pairs (length t) (b ∷ t))
pairs_all zero [] = refl
pairs_all (suc b) [] = and_true (ltb (suc b) 128 && true)
pairs_all zero (zero ∷ t) = pairs_all zero t
pairs_all zero (suc c ∷ t) = rw (eqb-suc-zero c) (and_false (ascii (suc c ∷ t)))
pairs_all (suc b) (c ∷ t) = rw (lt-ltb 0 (suc b) (omega arith)) (sym (and_join (ltb (suc b) 128) (ascii (c ∷ t)) (nul_padded (c ∷ t))) ∙ ap (λ x. ltb (suc b) 128 && x) (pairs_all c t))

pub pairs_empty : (s : List ℕ) → length s ≡ 0 → true ≡ (ascii s && nul_padded s)
pairs_empty [] e = refl
pairs_empty (b ∷ t) e = absurd (omega arith)

-- a text, whole
pub pairs_whole : (s : List ℕ) → 0 < length s → good_text (length s - 1) s ≡ (ascii s && nul_padded s)
pairs_whole [] h = absurd (omega arith)
pairs_whole (b ∷ t) h = let e : suc (length t) - 1 ≡ length t = omega arith in rw e (sym (pairs_all b t))

-- ---- a text that starts at a
module _ (s : List ℕ) (a n : ℕ) where
  -- its first byte is above 127
  pub text-high : 128 ≤ get_or s a 0 → false ≡ good_text n (drop a s)
  text-high h = rw (byte_at s a, le-ltb (get_or s a 0) 128 h)

  -- or below 128
  pub text-low : get_or s a 0 < 128 → good_pairs n (drop a s) ≡ good_text n (drop a s)
  text-low h = rw (byte_at s a, lt-ltb (get_or s a 0) 128 h)

-- ---- the walk: the bytes after a, up to i, are good
pub record Walked (s : List ℕ) (a i : ℕ) : Type 0 where
  pub on : a ≤ i
  pub good : good_pairs (i - a) (drop a s) ≡ true

pub walked_none : (s : List ℕ) (a : ℕ) → Walked s a a
walked_none s a = record { on = omega arith; good = let none : a - a ≡ 0 = omega arith in rw none }

-- n more tell all of the m
walked-rest : {s : List ℕ} {a i : ℕ} → Walked s a i → (n m : ℕ) → i + n ≡ a + m → good_pairs n (drop i s) ≡ good_pairs m (drop a s)
walked-rest {s} {a} {i} v n m e =
    let place : a + (i - a) ≡ i = omega (arith, v.on) in
    let count : m ≡ i - a + n = omega (arith, v.on) in
    sym (ap (λ j. good_pairs j (drop a s)) count ∙ pairs_add (i - a) n (drop a s) ∙ rw (v.good, drop-drop (i - a) a s, place))

module _ {s : List ℕ} {a i : ℕ} (v : Walked s a i) where
  -- the next n are good
  pub walked_next : (n : ℕ) → true ≡ good_pairs n (drop i s) → Walked s a (i + n)
  walked_next n e = record { on = omega (arith, v.on); good = sym (e ∙ walked-rest v n (i + n - a) (omega (arith, v.on))) }

  -- or not
  pub walked_miss : (n m : ℕ) → i + n ≤ a + m → false ≡ good_pairs n (drop i s) → false ≡ good_pairs m (drop a s)
  walked_miss n m fits e =
      let k = i + n - a in
      let count : k + (m - k) ≡ m = omega (arith, v.on) in
      let bad : good_pairs k (drop a s) ≡ false = sym (e ∙ walked-rest v n k (omega (arith, v.on))) in
      sym (ap (λ j. good_pairs j (drop a s)) (sym count) ∙ pairs_add k (m - k) (drop a s) ∙ ap (λ x. x && good_pairs (m - k) (drop k (drop a s))) bad)

  -- the last n of the m, from e on, tell the rest
  pub walked-last : (n m e : ℕ) → a ≤ e → e ≤ i → e + n ≡ a + m → good_pairs n (drop e s) ≡ good_pairs m (drop a s)
  walked-last n m e low near last =
      let count : e - a + (i - e) ≡ i - a = omega arith in
      let split = pairs_add (e - a) (i - e) (drop a s) in
      let before = and_left (good_pairs (e - a) (drop a s)) (good_pairs (i - e) (drop (e - a) (drop a s))) (sym split ∙ ap (λ j. good_pairs j (drop a s)) count ∙ v.good) in
      walked-rest (record { on = low; good = before }) n m last

-- ---- a NUL among bytes, one after the other
same-zero : (b : ℕ) → eqb b 0 ≡ eqb 0 b
same-zero zero = refl
same-zero (suc b) = eqb-suc-zero b ∙ sym (eqb-zero-suc b)

pub nul_next : (x : Bool) (s : List ℕ) (j : ℕ) → j < length s
    → (x || among 0 (drop j s)) ≡ ((x || eqb (get_or s j 0) 0) || among 0 (drop (j + 1) s))
nul_next x s j h = rw (add-one, drop-cons s j 0, same-zero (get_or s j 0)) (sym (or_assoc x (eqb 0 (get_or s j 0)) (among 0 (drop (suc j) s))))

pub nul_end : (x : Bool) (s : List ℕ) (j : ℕ) → length s ≤ j → (x || among 0 (drop j s)) ≡ x
nul_end x s j h = rw (drop_of_length-le s h) (or-false x)
