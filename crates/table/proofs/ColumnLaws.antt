-- Rows that are stored one by one in columns are the table by column; what each cell of it is. Assumes nothing.
use Rattle.std.specs.Prelude.{ℕ, zero, suc, ◌+◌, ◌-◌, ◌*◌, ◌/◌, ◌≤◌, ◌<◌, ◌≡◌, refl, take, drop, set, Bool, true, false, ◌&&◌, cond, ltb}
use Rattle.std.proofs.Common.{mul-suc, mul_comm, mul-le-mul_right, zero-add, add-zero, le-div_iff_mul-le, ◌∙◌, subst, length-drop, take-append-drop, length-take-le, drop-cons, get_or-append-add, get_or-take, get_or-drop, take_at, drop_at}
use native.Mathlib.Omega.{arith}
use Rattle.std.proofs.Math.Path.{sym, ap, ap₂}
use mathlib.Core.List.{List, [], ◌∷◌, ◌++◌, map-append, append_assoc, append-nil}
use Rattle.std.proofs.Math.ListN.{length, get_or, length-append, get_or-append}
use Rattle.std.proofs.lemmas.List.{length-map, set_at}
use Rattle.std.proofs.Math.Seq.{drop-length}
use borrow.Author.Tests.{lt-ltb, le-ltb}
use Rattle.table.specs.Table.{spread, put_columns, fill}
use Rattle.table.proofs.TableLaws.{Wide}
use Rattle.table.specs.Columns.{column, columns_from, columns, cell, cell_of}

-- k columns of height h, in which so many rows stand
module _ (h : ℕ) where
  -- what one column more asks for
  more : (k m : ℕ) → h * suc k ≤ m → (h ≤ m) × (h * k ≤ m - h)
  more k m l = omega (arith, mul-suc h k)

  column-length : (c : ℕ) (rs : List (List ℕ)) → length (column c rs) ≡ length rs
  column-length c rs = length-map rs (λ r. get_or r c 0)

  -- a column, with what stood below the rows, is as high
  whole_length : (c : ℕ) (rs : List (List ℕ)) (t : List ℕ) → length rs ≤ h → h ≤ length t → length (column c rs ++ drop (length rs) (take h t)) ≡ h
  whole_length c rs t l m = length-append (column c rs) (drop (length rs) (take h t)) ∙ omega (arith, column-length c rs, length-drop (length rs) (take h t), length-take-le h t m)

  from-length : (c k : ℕ) (rs : List (List ℕ)) (t : List ℕ) → length rs ≤ h → h * k ≤ length t → length (columns_from h c k rs t) ≡ length t
  from-length c zero rs t l m = refl
  from-length c (suc k) rs t l m =
      let (a, b) = more k (length t) m in
      let rest = columns_from h (suc c) k rs (drop h t) in
      let below = drop (length rs) (take h t) in
      length-append (column c rs) (below ++ rest)
      ∙ omega (arith, column-length c rs, length-append below rest, length-drop (length rs) (take h t), length-take-le h t a, from-length (suc c) k rs (drop h t) l (subst (λ (n : ℕ). h * k ≤ n) (sym (length-drop h t)) b), length-drop h t)

  from-none : (c k : ℕ) (t : List ℕ) → columns_from h c k [] t ≡ t
  from-none c zero t = refl
  from-none c (suc k) t = ap (λ (u : List ℕ). take h t ++ u) (from-none (suc c) k (drop h t)) ∙ take-append-drop h t

  -- the same rows again change nothing
  from_again : (c k : ℕ) (rs : List (List ℕ)) (t : List ℕ) → length rs ≤ h → h * k ≤ length t → columns_from h c k rs (columns_from h c k rs t) ≡ columns_from h c k rs t
  from_again c zero rs t l m = refl
  from_again c (suc k) rs t l m =
      let (a, b) = more k (length t) m in
      let below = drop (length rs) (take h t) in
      let rest = columns_from h (suc c) k rs (drop h t) in
      let long = whole_length c rs t l a in
      let e : column c rs ++ (below ++ rest) ≡ (column c rs ++ below) ++ rest = sym (append_assoc (column c rs) below rest) in
      let first : take h (column c rs ++ (below ++ rest)) ≡ column c rs ++ below = ap (take h) e ∙ take_at (column c rs ++ below) rest h long in
      let others : drop h (column c rs ++ (below ++ rest)) ≡ rest = ap (drop h) e ∙ drop_at (column c rs ++ below) rest h long in
      let same : drop (length rs) (take h (column c rs ++ (below ++ rest))) ≡ below = ap (drop (length rs)) first ∙ drop_at (column c rs) below (length rs) (column-length c rs) in
      ap (λ (u : List ℕ). column c rs ++ u) (ap₂ ◌++◌ same (ap (columns_from h (suc c) k rs) others ∙ from_again (suc c) k rs (drop h t) l (subst (λ (n : ℕ). h * k ≤ n) (sym (length-drop h t)) b)))

  -- numbers that are spread over what stands after a
  spread-after : (a b xs : List ℕ) (i : ℕ) → spread h (a ++ b) (length a + i) xs ≡ a ++ spread h b i xs
  spread-after a b [] i = refl
  spread-after a b (x ∷ xs) i =
      let e : length a + i + h ≡ length a + (i + h) = omega arith in
      ap₂ (λ (t : List ℕ) (j : ℕ). spread h t j xs) (set_after a i x) e ∙ spread-after a (set b i x) xs (i + h)
    where
      set_after : (a : List ℕ) (i x : ℕ) → set (a ++ b) (length a + i) x ≡ a ++ set b i x
      set_after [] i x = ap (λ (j : ℕ). set b j x) (zero-add i)
      set_after (y ∷ a) i x =
          let e : suc (length a) + i ≡ suc (length a + i) = omega arith in
          ap (λ (j : ℕ). set (y ∷ (a ++ b)) j x) e ∙ ap (λ (u : List ℕ). y ∷ u) (set_after a i x)

  -- one row more, stored number by number below the others
  from_row : (c k : ℕ) (rs : List (List ℕ)) (r t : List ℕ) → length rs < h → h * k ≤ length t → length r ≡ c + k
      → spread h (columns_from h c k rs t) (length rs) (drop c r) ≡ columns_from h c k (rs ++ (r ∷ [])) t
  from_row c zero rs r t l m w =
      let e : c ≡ length r = omega arith in
      ap (spread h t (length rs)) (ap (λ (n : ℕ). drop n r) e ∙ drop-length r)
  from_row c (suc k) rs r t l m w =
      let (a, b) = more k (length t) m in
      let n = length rs in
      let x = get_or r c 0 in
      let top = take h t in
      let below = drop (suc n) top in
      let rest = columns_from h (suc c) k rs (drop h t) in
      let high = length-take-le h t a in
      let split : drop n top ≡ get_or top n 0 ∷ below = drop-cons top n 0 (omega arith) in
      let numbers : drop c r ≡ x ∷ drop (suc c) r = drop-cons r c 0 (omega arith) in
      let front = column c rs ++ (x ∷ below) in
      let tall : length front ≡ h = length-append (column c rs) (x ∷ below) ∙ omega (arith, column-length c rs, length-drop (suc n) top) in
      let stored : set (column c rs ++ (drop n top ++ rest)) n x ≡ front ++ rest =
      ap (λ (u : List ℕ). set (column c rs ++ (u ++ rest)) n x) split ∙ set_at (column c rs) (get_or top n 0) (below ++ rest) x n (column-length c rs) ∙ sym (append_assoc (column c rs) (x ∷ below) rest) in
      let at : n + h ≡ length front + n = omega arith in
      let added : column c (rs ++ (r ∷ [])) ≡ column c rs ++ (x ∷ []) = map-append (λ r. get_or r c 0) rs (r ∷ []) in
      let one : length (rs ++ (r ∷ [])) ≡ suc n = length-append rs (r ∷ []) ∙ omega arith in
      let room : h * k ≤ length (drop h t) = subst (λ (j : ℕ). h * k ≤ j) (sym (length-drop h t)) b in
      ap (spread h (column c rs ++ (drop n top ++ rest)) n) numbers
      ∙ ap₂ (λ (u : List ℕ) (j : ℕ). spread h u j (drop (suc c) r)) stored at
      ∙ spread-after front rest (drop (suc c) r) n
      ∙ ap (λ (u : List ℕ). front ++ u) (from_row (suc c) k rs r (drop h t) l room (omega arith))
      ∙ append_assoc (column c rs) (x ∷ below) (columns_from h (suc c) k (rs ++ (r ∷ [])) (drop h t))
      ∙ sym (ap₂ (λ (u : List ℕ) (j : ℕ). u ++ (drop j top ++ columns_from h (suc c) k (rs ++ (r ∷ [])) (drop h t))) added one
      ∙ append_assoc (column c rs) (x ∷ []) (below ++ columns_from h (suc c) k (rs ++ (r ∷ [])) (drop h t)))

  -- number j + c of row r where there is such a row, and else what stood there
  module _ (rs : List (List ℕ)) (few : length rs ≤ h) where
    first_cell : (c k : ℕ) (t : List ℕ) (r : ℕ) → h * suc k ≤ length t → r < length rs → get_or (columns_from h c (suc k) rs t) r 0 ≡ get_or (get_or rs r []) c 0
    first_cell c k t r m i =
        get_or-append (column c rs) (drop (length rs) (take h t) ++ columns_from h (suc c) k rs (drop h t)) 0 r (omega (arith, column-length c rs))
        ∙ number r rs i
      where
        number : (r : ℕ) (rs : List (List ℕ)) → r < length rs → get_or (column c rs) r 0 ≡ get_or (get_or rs r []) c 0
        number r [] i = absurd (omega arith)
        number zero (x ∷ rs) i = refl
        number (suc r) (x ∷ rs) i = number r rs (omega arith)

    first-kept : (c k : ℕ) (t : List ℕ) (r : ℕ) → h * suc k ≤ length t → length rs ≤ r → r < h → get_or (columns_from h c (suc k) rs t) r 0 ≡ get_or t r 0
    first-kept c k t r m i l =
        let (a, b) = more k (length t) m in
        let n = length rs in
        let below = drop n (take h t) in
        let rest = columns_from h (suc c) k rs (drop h t) in
        let at : length (column c rs) + (r - n) ≡ r = omega (arith, column-length c rs) in
        let here : n + (r - n) ≡ r = omega arith in
        ap (λ (j : ℕ). get_or (column c rs ++ (below ++ rest)) j 0) (sym at) ∙ get_or-append-add (column c rs) (below ++ rest) (r - n) 0
        ∙ get_or-append below rest 0 (r - n) (omega (arith, length-drop n (take h t), length-take-le h t a))
        ∙ get_or-drop n (take h t) (r - n) 0 ∙ ap (λ (j : ℕ). get_or (take h t) j 0) here ∙ get_or-take h t r 0 l

    -- past the first column stand the others
    past_first : (c k : ℕ) (t : List ℕ) (i : ℕ) → h * suc k ≤ length t → get_or (columns_from h c (suc k) rs t) (h + i) 0 ≡ get_or (columns_from h (suc c) k rs (drop h t)) i 0
    past_first c k t i m =
        let (a, b) = more k (length t) m in
        let below = drop (length rs) (take h t) in
        let rest = columns_from h (suc c) k rs (drop h t) in
        let at : h + i ≡ length (column c rs ++ below) + i = ap (λ (n : ℕ). n + i) (sym (whole_length c rs t few a)) in
        ap₂ (λ (u : List ℕ) (j : ℕ). get_or u j 0) (sym (append_assoc (column c rs) below rest)) at ∙ get_or-append-add (column c rs ++ below) rest i 0

    from_cell : (c k j : ℕ) (t : List ℕ) (r : ℕ) → j < k → h * k ≤ length t → r < length rs → get_or (columns_from h c k rs t) (j * h + r) 0 ≡ get_or (get_or rs r []) (c + j) 0
    from_cell c zero j t r g m i = absurd (omega arith)
    from_cell c (suc k) zero t r g m i =
        ap (λ (n : ℕ). get_or (columns_from h c (suc k) rs t) n 0) (omega arith) ∙ first_cell c k t r m i ∙ ap (λ (n : ℕ). get_or (get_or rs r []) n 0) (sym (add-zero c))
    from_cell c (suc k) (suc j) t r g m i =
        let b = (more k (length t) m).1 in
        let at : suc j * h + r ≡ h + (j * h + r) = omega (arith, mul_comm (suc j) h, mul-suc h j, mul_comm j h) in
        let on : suc c + j ≡ c + suc j = omega arith in
        ap (λ (n : ℕ). get_or (columns_from h c (suc k) rs t) n 0) at ∙ past_first c k t (j * h + r) m
        ∙ from_cell (suc c) k j (drop h t) r (omega arith) (subst (λ (n : ℕ). h * k ≤ n) (sym (length-drop h t)) b) i ∙ ap (λ (n : ℕ). get_or (get_or rs r []) n 0) on

    from-kept : (c k j : ℕ) (t : List ℕ) (r : ℕ) → j < k → h * k ≤ length t → length rs ≤ r → r < h → get_or (columns_from h c k rs t) (j * h + r) 0 ≡ get_or t (j * h + r) 0
    from-kept c zero j t r g m i l = absurd (omega arith)
    from-kept c (suc k) zero t r g m i l =
        let at : 0 * h + r ≡ r = omega arith in
        ap (λ (n : ℕ). get_or (columns_from h c (suc k) rs t) n 0) at ∙ first-kept c k t r m i l ∙ ap (λ (n : ℕ). get_or t n 0) (sym at)
    from-kept c (suc k) (suc j) t r g m i l =
        let b = (more k (length t) m).1 in
        let at : suc j * h + r ≡ h + (j * h + r) = omega (arith, mul_comm (suc j) h, mul-suc h j, mul_comm j h) in
        ap (λ (n : ℕ). get_or (columns_from h c (suc k) rs t) n 0) at ∙ past_first c k t (j * h + r) m
        ∙ from-kept (suc c) k j (drop h t) r (omega arith) (subst (λ (n : ℕ). h * k ≤ n) (sym (length-drop h t)) b) i l
        ∙ get_or-drop h t (j * h + r) 0 ∙ ap (λ (n : ℕ). get_or t n 0) (sym at)

    from-after : (c k : ℕ) (t : List ℕ) (i : ℕ) → h * k ≤ length t → get_or (columns_from h c k rs t) (h * k + i) 0 ≡ get_or t (h * k + i) 0
    from-after c zero t i m = refl
    from-after c (suc k) t i m =
        let b = (more k (length t) m).1 in
        let at : h * suc k + i ≡ h + (h * k + i) = omega (arith, mul-suc h k) in
        ap (λ (n : ℕ). get_or (columns_from h c (suc k) rs t) n 0) at ∙ past_first c k t (h * k + i) m
        ∙ from-after (suc c) k (drop h t) i (subst (λ (n : ℕ). h * k ≤ n) (sym (length-drop h t)) b)
        ∙ get_or-drop h t (h * k + i) 0 ∙ ap (λ (n : ℕ). get_or t n 0) (sym at)

-- ---- a table of w columns

-- no rows change nothing
pub columns-none : (w : ℕ) (t : List ℕ) → columns w [] t ≡ t
unfolding columns
columns-none w t = from-none (length t / w) 0 w t

module _ (w : ℕ) (some : 0 < w) where
  -- the columns fit the table
  fit : (m : ℕ) → m / w * w ≤ m
  fit m = (le-div_iff_mul-le some).0 (omega arith)

  room : (t : List ℕ) → length t / w * w ≤ length t
  room t = fit (length t)

  module _ (rs : List (List ℕ)) (t : List ℕ) (few : length rs ≤ length t / w) where
    pub columns-length : length (columns w rs t) ≡ length t
    unfolding columns
    columns-length = from-length (length t / w) 0 w rs t few (room t)

    -- storing the same rows again changes nothing
    pub columns_again : columns w rs (columns w rs t) ≡ columns w rs t
    unfolding columns
    columns_again =
        ap (λ (n : ℕ). columns_from (n / w) 0 w rs (columns_from (length t / w) 0 w rs t)) (from-length (length t / w) 0 w rs t few (room t))
        ∙ from_again (length t / w) 0 w rs t few (room t)

    -- number c of row r is there
    pub cell_row : (r c : ℕ) → r < length rs → c < w → cell w (columns w rs t) r c ≡ get_or (get_or rs r []) c 0
    unfolding columns
    cell_row r c i j =
        ap (λ (n : ℕ). get_or (columns_from (length t / w) 0 w rs t) (c * (n / w) + r) 0) (from-length (length t / w) 0 w rs t few (room t))
        ∙ from_cell (length t / w) rs few 0 w c t r j (room t) i ∙ ap (λ (n : ℕ). get_or (get_or rs r []) n 0) (zero-add c)

    -- below the last row of a column, and after the columns, stands what stood there
    pub cell-kept : (r c : ℕ) → length rs ≤ r → r < length t / w → c < w → cell w (columns w rs t) r c ≡ cell w t r c
    unfolding columns
    cell-kept r c i l j =
        ap (λ (n : ℕ). get_or (columns_from (length t / w) 0 w rs t) (c * (n / w) + r) 0) (from-length (length t / w) 0 w rs t few (room t))
        ∙ from-kept (length t / w) rs few 0 w c t r j (room t) i l

    pub after_kept : (i : ℕ) → length t / w * w ≤ i → get_or (columns w rs t) i 0 ≡ get_or t i 0
    unfolding columns
    after_kept i l =
        let at : length t / w * w + (i - length t / w * w) ≡ i = omega arith in
        ap (λ (n : ℕ). get_or (columns_from (length t / w) 0 w rs t) n 0) (sym at) ∙ from-after (length t / w) rs few 0 w t (i - length t / w * w) (room t) ∙ ap (λ (n : ℕ). get_or t n 0) at

  -- rows that are stored one by one, after others
  fill-after : (qs rs : List (List ℕ)) (t : List ℕ) → Wide w qs → length rs + length qs ≤ length t / w → fill (put_columns w) (columns w rs t) (length rs) qs ≡ columns w (rs ++ qs) t
  unfolding columns put_columns
  fill-after [] rs t z l = ap (λ (u : List (List ℕ)). columns w u t) (sym (append-nil rs))
  fill-after (q ∷ qs) rs t z l =
      let few : length rs ≤ length t / w = omega arith in
      let below : length rs < length t / w = omega arith in
      let e = from-length (length t / w) 0 w rs t few (room t) in
      let put : put_columns w (columns w rs t) (length rs) q ≡ columns w (rs ++ (q ∷ [])) t =
      rw (e, lt-ltb (length rs) (length t / w) below) (from_row (length t / w) 0 w rs q t below (room t) (z.0 ∙ sym (zero-add w))) in
      let one : length rs + 1 ≡ length (rs ++ (q ∷ [])) = sym (length-append rs (q ∷ [])) in
      ap₂ (λ (u : List ℕ) (n : ℕ). fill (put_columns w) u n qs) put one
      ∙ fill-after qs (rs ++ (q ∷ [])) t z.1 (omega (arith, length-append rs (q ∷ [])))
      ∙ ap (λ (u : List (List ℕ)). columns w u t) (append_assoc rs (q ∷ []) qs)

  -- all rows of a table that is high enough
  pub fill-columns : (rs : List (List ℕ)) (t : List ℕ) → Wide w rs → length rs ≤ length t / w → fill (put_columns w) t 0 rs ≡ columns w rs t
  unfolding columns
  fill-columns rs t z l = ap (λ (u : List ℕ). fill (put_columns w) u 0 rs) (sym (columns-none w t)) ∙ fill-after rs [] t z (omega arith)

-- ---- a cell by row and column

pub cell_in : (t : List ℕ) (r c : ℕ) → r < length t / 6 → c < 6 → cell 6 t r c ≡ cell_of t r c
unfolding cell_of
cell_in t r c h l = rw (lt-ltb r (length t / 6) h, lt-ltb c 6 l)

pub cell-past : (t : List ℕ) (r c : ℕ) → length t / 6 ≤ r → 0 ≡ cell_of t r c
unfolding cell_of
cell-past t r c h = rw (le-ltb r (length t / 6) h)

pub cell_beside : (t : List ℕ) (r c : ℕ) → 6 ≤ c → 0 ≡ cell_of t r c
unfolding cell_of
cell_beside t r c h = rw (le-ltb c 6 h) (go (ltb r (length t / 6)))
  where
    go : (x : Bool) → 0 ≡ cond (x && false) (cell 6 t r c) 0
    go true = refl
    go false = refl

-- it is within the table
pub cell-fits : (m r c : ℕ) → r < m / 6 → c < 6 → c * (m / 6) + r < m
cell-fits m r c h l =
    let p : c * (m / 6) ≤ 5 * (m / 6) = (let q : c ≤ 5 = omega arith in mul-le-mul_right (m / 6) q) in
    omega arith
