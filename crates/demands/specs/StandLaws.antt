-- Rows that stand in a table of nine numbers a row, one after the other from some row on. Assumes nothing.
use Rattle.std.specs.Prelude.{ℕ, suc, ◌+◌, ◌*◌, ◌<◌, ◌≡◌, false, cond, length, get_or, eqb}
use native.Mathlib.Omega.{arith}
use Rattle.std.proofs.Math.Path.{refl, ap, subst}
use Rattle.std.proofs.Common.{sym, ap₂, ◌∙◌}
use mathlib.Core.List.{List, [], ◌∷◌, ◌++◌, map, append-nil}
use Rattle.table.specs.Table.{flat, all_rows}
use Rattle.table.proofs.TableLaws.{Wide}
use Rattle.table.specs.EachLaws.{row_number}
use Rattle.rows_check.specs.Tree.{cell, cells, from, after, count_kind}

-- these rows stand in the table from row q on
abbrev pub Stand : List ℕ → ℕ → List (List ℕ) → Type 0
Stand table q [] = Unit {0}
Stand table q (r ∷ rs) = (cells table q ≡ r) × Stand table (q + 1) rs

-- numbers that are those of a list are the list
numbers-list : (f : ℕ → ℕ) (p : ℕ) (r : List ℕ) → ((k : ℕ) → k < length r → f (p + k) ≡ get_or r k 0) → from after f p (length r) ≡ r
unfolding from
numbers-list f p [] h = refl
numbers-list f p (x ∷ r) h =
    let z : p ≡ p + 0 = omega arith in
    ap₂ ◌∷◌ (ap f z ∙ h 0 (omega arith)) (numbers-list f (p + 1) r (λ k l. let e : p + 1 + k ≡ p + suc k = omega arith in ap f e ∙ h (suc k) (omega arith)))

module _ (table : List ℕ) where
  -- the nine numbers of a row are the row
  nine-row : (q : ℕ) (r : List ℕ) → length r ≡ 9 → ((j : ℕ) → j < 9 → cell table q j ≡ get_or r j 0) → cells table q ≡ r
  unfolding from
  nine-row q r l h = subst (λ n. from after (cell table q) 0 n ≡ r) l (numbers-list (cell table q) 0 r (λ k g. ap (cell table q) (omega arith) ∙ h k (omega arith)))

  -- rows of nine whose numbers stand in the table stand there
  numbers-stand : (rs : List (List ℕ)) (q : ℕ) → Wide 9 rs → ((i j : ℕ) → i < length rs → j < 9 → cell table (q + i) j ≡ get_or (get_or rs i []) j 0) → Stand table q rs
  numbers-stand [] q w h = tt
  numbers-stand (r ∷ rs) q w h = (
    nine-row q r w.0 (λ j l. ap (λ i. cell table i j) (omega arith) ∙ h 0 j (omega arith) l),
    numbers-stand rs (q + 1) w.1 (λ i j g l. let e : q + 1 + i ≡ q + suc i = omega arith in ap (λ i. cell table i j) e ∙ h (suc i) j (omega arith) l),
  )

  -- rows and others after them
  pub stand-append : (us vs : List (List ℕ)) (q : ℕ) → Stand table q (us ++ vs) → Stand table q us × Stand table (q + length us) vs
  stand-append [] vs q h = let e : q ≡ q + 0 = omega arith in (tt, subst (λ n. Stand table n vs) e h)
  stand-append (u ∷ us) vs q h =
      let i = stand-append us vs (q + 1) h.1 in
      let e : q + 1 + length us ≡ q + suc (length us) = omega arith in
      ((h.0, i.0), subst (λ n. Stand table n vs) e i.1)

-- rows of nine, one after the other, stand in the table that they make
pub flat-stands : (rs : List (List ℕ)) → Wide 9 rs → Stand (flat rs) 0 rs
flat-stands rs w =
    numbers-stand (flat rs) rs 0 w (λ i j g l. let e : 9 * (0 + i) + j ≡ 9 * i + j = omega arith in ap (λ k. get_or (flat rs) k 0) e ∙ ap (λ t. get_or t (9 * i + j) 0) (sym (append-nil (flat rs))) ∙ row_number 9 rs [] w i j g l)

-- ---- how many are of a kind

-- how many of the rows are of that kind
unfoldable pub kinds_in : ℕ → List (List ℕ) → ℕ
kinds_in kind [] = 0
kinds_in kind (r ∷ rs) = cond (eqb (get_or r 0 0) kind) 1 0 + kinds_in kind rs

-- as many stand in the table
pub stand-kinds : (table : List ℕ) (kind : ℕ) (rs : List (List ℕ)) (q : ℕ) → Stand table q rs → count_kind kind table q (length rs) ≡ kinds_in kind rs
unfolding count_kind kinds_in
stand-kinds table kind [] q h = refl
stand-kinds table kind (r ∷ rs) q h = ap₂ (λ k n. cond (eqb k kind) 1 0 + n) (ap (λ l. get_or l 0 0) h.0) (stand-kinds table kind rs (q + 1) h.1)

module _ (kind : ℕ) where
  -- of rows and others after them
  pub kinds-append : (us vs : List (List ℕ)) → kinds_in kind (us ++ vs) ≡ kinds_in kind us + kinds_in kind vs
  unfolding kinds_in
  kinds-append [] vs = omega arith
  kinds-append (u ∷ us) vs = omega (arith, kinds-append us vs)

  -- none, where the row of anything is of another kind
  pub kinds-none : {A : Type 0} (row : A → List ℕ) → ((x : A) → eqb (get_or (row x) 0 0) kind ≡ false) → (xs : List A) → kinds_in kind (map row xs) ≡ 0
  unfolding kinds_in
  kinds-none row h [] = refl
  kinds-none row h (x ∷ xs) = rw (h x) (omega (arith, kinds-none row h xs))

  -- n for each of some that have n rows of that kind
  pub kinds-all : {A : Type 0} (n : ℕ) (rows_of : A → List (List ℕ)) → ((x : A) → kinds_in kind (rows_of x) ≡ n) → (xs : List A) → kinds_in kind (all_rows rows_of xs) ≡ length xs * n
  unfolding kinds_in
  kinds-all n rows_of h [] = omega arith
  kinds-all n rows_of h (x ∷ xs) = kinds-append (rows_of x) (all_rows rows_of xs) ∙ omega (arith, h x, kinds-all n rows_of h xs)
