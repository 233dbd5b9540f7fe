-- What holds of every row, where the numbers of a row stand in a table, and rows whose texts lie within so many bytes. Assumes nothing.
use Rattle.std.specs.Prelude.{ℕ, zero, suc, ◌+◌, ◌*◌, ◌≤◌, ◌<◌, ◌≡◌, true, false, ◌&&◌, List, [], ◌∷◌, ◌++◌, map, length, get_or, leb, eqb}
use Rattle.std.proofs.Common.{mul-zero, mul-suc, arith, ap, ◌∙◌, append_assoc, length-append, get_or-append-add}
use Rattle.std.proofs.Math.ListN.{get_or-append}
use Rattle.codec.specs.Codec.{Codec, TimesEach}
use Rattle.codec.proofs.Laws.{Part}
use Rattle.table.specs.Table.{flat, all_rows, From, each_from}

-- Q holds of every row
abbrev pub Each : (List ℕ → Type 0) → List (List ℕ) → Type 0
Each Q [] = Unit {0}
Each Q (r ∷ rs) = Q r × Each Q rs

-- what holds of every row of two lists holds of both together
pub each_append : (Q : List ℕ → Type 0) (a b : List (List ℕ)) → Each Q a → Each Q b → Each Q (a ++ b)
each_append Q [] b g h = h
each_append Q (r ∷ a) b g h = (g.0, each_append Q a b g.1 h)

-- what holds of every row holds of row i
pub each_at : (Q : List ℕ → Type 0) (rs : List (List ℕ)) → Each Q rs → (i : ℕ) → i < length rs → Q (get_or rs i [])
each_at Q [] h i l = absurd (omega arith)
each_at Q (r ∷ rs) h zero l = h.0
each_at Q (r ∷ rs) h (suc i) l = each_at Q rs h.1 i (omega arith)

-- the rows of items of which R holds: one row each, and several that tell their index
module _ {A : Type 0} (R : A → Type 0) (Q : List ℕ → Type 0) (all : List A → Type 0) (first : (x : A) (xs : List A) → all (x ∷ xs) → R x × all xs) where
  pub each_item : (row : A → List ℕ) → ((x : A) → R x → Q (row x)) → (xs : List A) → all xs → Each Q (map row xs)
  each_item row h [] e = tt
  each_item row h (x ∷ xs) e = let f = first x xs e in (h x f.0, each_item row h xs f.1)

  pub each_from_lem : (rows : A → From) → ((x : A) (n : ℕ) → R x → Each Q (rows x n)) → (xs : List A) (n : ℕ) → all xs → Each Q (each_from rows xs n)
  each_from_lem rows h [] n e = tt
  each_from_lem rows h (x ∷ xs) n e =
      let f = first x xs e in
      each_append Q (rows x n) (each_from rows xs (n + length (rows x n))) (h x n f.0) (each_from_lem rows h xs (n + length (rows x n)) f.1)

-- the rows of items, where P holds of the start and the bytes of every part that has its place
module _ {A : Type 0} (c : Codec A) (P : ℕ → List ℕ → Type 0) (Q : List ℕ → Type 0) where
  pub each_map : (row : A → List ℕ) → ((x : A) → c.each P x → Q (row x)) → (xs : List A) → TimesEach c P xs → Each Q (map row xs)
  each_map = each_item (c.each P) Q (TimesEach c P) (λ x xs e. e)

  pub each_all : (rows : A → List (List ℕ)) → ((x : A) → c.each P x → Each Q (rows x)) → (xs : List A) → TimesEach c P xs → Each Q (all_rows rows xs)
  each_all rows h [] e = tt
  each_all rows h (x ∷ xs) e = each_append Q (rows x) (all_rows rows xs) (h x e.0) (each_all rows h xs e.1)

-- number j of row i of a table of rows of w numbers stands at w * i + j
pub row_number : (w : ℕ) (rs : List (List ℕ)) (rest : List ℕ) → Each (λ r. length r ≡ w) rs → (i j : ℕ) → i < length rs → j < w → get_or (flat rs ++ rest) (w * i + j) 0 ≡ get_or (get_or rs i []) j 0
row_number w [] rest h i j l m = absurd (omega arith)
row_number w (r ∷ rs) rest h zero j l m =
    let a : w * 0 + j ≡ j = omega (arith, mul-zero w) in
    let g : j < length r = omega (arith, h.0) in
    ap (λ (k : ℕ). get_or ((r ++ flat rs) ++ rest) k 0) a ∙ ap (λ (t : List ℕ). get_or t j 0) (append_assoc r (flat rs) rest) ∙ get_or-append r (flat rs ++ rest) 0 j g
row_number w (r ∷ rs) rest h (suc i) j l m =
    let a : w * suc i + j ≡ length r + (w * i + j) = omega (arith, mul-suc w i, h.0) in
    ap (λ (k : ℕ). get_or ((r ++ flat rs) ++ rest) k 0) a ∙ ap (λ (t : List ℕ). get_or t (length r + (w * i + j)) 0) (append_assoc r (flat rs) rest)
    ∙ get_or-append-add r (flat rs ++ rest) (w * i + j) 0 ∙ row_number w rs rest h.1 i j (omega arith) m

-- a row of a kind from low to high; where it is no field (11), its text lies within n bytes
pub record RowInside (low high n : ℕ) (r : List ℕ) : Type 0 where
  pub kind : (leb low (get_or r 0 0) && leb (get_or r 0 0) high) ≡ true
  pub inside : eqb (get_or r 0 0) 11 ≡ false → get_or r 1 0 + get_or r 2 0 ≤ n

-- bytes from n on lie within m bytes
abbrev pub PartInside : ℕ → ℕ → List ℕ → Type 0
PartInside m n u = n + length u ≤ m

-- a part lies within the bytes that begin with what it is a part of
pub part-inside : {a u : List ℕ} {n : ℕ} (b : List ℕ) → Part a n u → PartInside (length (a ++ b)) (0 + n) u
part-inside {a} {u} {n} b q = omega (arith, length-append a b, ap length q.bytes, length-append q.pre (u ++ q.post), length-append u q.post, q.from)
