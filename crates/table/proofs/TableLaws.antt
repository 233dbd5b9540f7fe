-- Rows in a table that is long enough stand at its front, one after the other. Assumes nothing.
use Rattle.std.specs.Prelude.{ℕ, suc, ◌+◌, ◌*◌, ◌/◌, ◌≤◌, ◌<◌, ◌≡◌, List, [], ◌∷◌, ◌++◌, map, drop}
use Rattle.std.proofs.Common.{sym, ap, ap₂, ◌∙◌, append_assoc, mul-zero, mul-suc, mul_comm, le-div_iff_mul-le, add-one, length-drop, drop-drop, lt-ltb}
use native.Mathlib.Omega.{arith}
use Rattle.std.proofs.Math.ListN.{length, length-append}
use Rattle.std.proofs.Math.Seq.{sets-eq, take_at, drop-append-add}
use Rattle.table.specs.Table.{flat, all_rows, From, each_from, put_row, fill}
use Rattle.table.specs.EachLaws.{Each, each_append, each_from_lem}

-- every row has w numbers
abbrev pub Wide : ℕ → List (List ℕ) → Type 0
Wide w rs = Each (λ r. length r ≡ w) rs

pub wide-append : (w : ℕ) (a b : List (List ℕ)) → Wide w a → Wide w b → Wide w (a ++ b)
wide-append w a b g h = each_append (λ r. length r ≡ w) a b g h

pub wide-map : (w : ℕ) {A : Type 0} (f : A → List ℕ) → ((x : A) → length (f x) ≡ w) → (xs : List A) → Wide w (map f xs)
wide-map w f h [] = tt
wide-map w f h (x ∷ xs) = (h x, wide-map w f h xs)

pub wide-all : (w : ℕ) {A : Type 0} (f : A → List (List ℕ)) → ((x : A) → Wide w (f x)) → (xs : List A) → Wide w (all_rows f xs)
wide-all w f h [] = tt
wide-all w f h (x ∷ xs) = wide-append w (f x) (all_rows f xs) (h x) (wide-all w f h xs)

pub wide_from : (w : ℕ) {A : Type 0} (f : A → From) → ((x : A) (n : ℕ) → Wide w (f x n)) → (xs : List A) (n : ℕ) → Wide w (each_from f xs n)
wide_from w f h xs n = each_from_lem (λ _. Unit {0}) (λ r. length r ≡ w) (λ _. Unit {0}) (λ x xs e. (tt, tt)) f (λ x n e. h x n) xs n tt

-- rows of w numbers, with what omega tells of a number w
module _ (w : ℕ) (zero : w * 0 ≡ 0) (step : (n : ℕ) → w * (n + 1) ≡ w * n + w) (fit : (m n : ℕ) → w * n + w ≤ m → n < m / w) where
  put_front : (a t r : List ℕ) (n : ℕ) → length a ≡ w * n → w ≤ length t → length r ≡ w → put_row w (a ++ t) n r ≡ (a ++ r) ++ drop w t
  unfolding put_row
  put_front a t r n e h l =
      let q = length-append a t in
      let i : n < length (a ++ t) / w = fit (length (a ++ t)) n (omega arith) in
      let j : w * n + length r ≤ length (a ++ t) = omega arith in
      let k : w * n + length r ≡ length a + w = omega arith in
      rw (lt-ltb n (length (a ++ t) / w) i, sets-eq r (a ++ t) (w * n) j, take_at a t (w * n) e, k, drop-append-add a t w)

  fill-front : (rs : List (List ℕ)) (a t : List ℕ) (n : ℕ) → Wide w rs → length a ≡ w * n → w * length rs ≤ length t → fill (put_row w) (a ++ t) n rs ≡ a ++ (flat rs ++ drop (w * length rs) t)
  fill-front [] a t n z e h = rw zero
  fill-front (r ∷ rs) a t n z e h =
      let l = z.0 in
      let q = length-append a r in
      let d = length-drop w t in
      let sn = step n in
      let o : suc (length rs) ≡ length rs + 1 = omega arith in
      let sr : w * suc (length rs) ≡ w * length rs + w = ap (λ m. w * m) o ∙ step (length rs) in
      let h₁ : w ≤ length t = omega arith in
      let e₂ : length (a ++ r) ≡ w * (n + 1) = omega arith in
      let h₂ : w * length rs ≤ length (drop w t) = omega arith in
      let k : w + w * length rs ≡ w * suc (length rs) = omega arith in
      rw (put_front a t r n e h₁ l, fill-front rs (a ++ r) (drop w t) (n + 1) z.1 e₂ h₂, drop-drop (w * length rs) w t, k)
      (simp append_assoc)

-- row n of a table of rows of w numbers ends within the table
pub row_fits_lem : {w m n : ℕ} → 0 < w → n < m / w → w * n + w ≤ m
row_fits_lem {w} {m} {n} p h =
    let q : suc n ≤ m / w = omega arith in
    rw (mul_comm (suc n) w, mul-suc w n) at ((le-div_iff_mul-le p).0 q)

row_is : {w m n : ℕ} → 0 < w → w * n + w ≤ m → n < m / w
row_is {w} {m} {n} p h =
    let q : suc n * w ≤ m = (rw (mul_comm (suc n) w, mul-suc w n) h) in
    let r : suc n ≤ m / w = (le-div_iff_mul-le p).1 q in
    omega arith

-- all rows of a table that has room for them
pub fill-rows : (w : ℕ) → 0 < w → (rs : List (List ℕ)) (t : List ℕ) → Wide w rs → length rs ≤ length t / w → fill (put_row w) t 0 rs ≡ flat rs ++ drop (w * length rs) t
fill-rows w p rs t z h = fill-front w (mul-zero w) (λ n. rw add-one (mul-suc w n)) (λ m n g. row_is p g) rs [] t 0 z (sym (mul-zero w)) room
  where
    room : w * length rs ≤ length t
    room = rw (mul_comm (length rs) w) at ((le-div_iff_mul-le p).0 h)

-- how long rows are, one after the other
pub flat-length : (w : ℕ) (rs : List (List ℕ)) → Wide w rs → length (flat rs) ≡ w * length rs
flat-length w [] h = sym (mul-zero w)
flat-length w (r ∷ rs) h = length-append r (flat rs) ∙ ap₂ ◌+◌ h.0 (flat-length w rs h.1) ∙ omega (arith, mul-suc w (length rs))
