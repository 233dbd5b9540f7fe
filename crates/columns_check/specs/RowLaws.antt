-- How the mappings' rows stand, as a view over which later laws go; what a test of many rows tells; how many rows, symbols and mappings there are.
-- Assumes nothing.
use Rattle.std.specs.Prelude.{ℕ, zero, suc, ◌+◌, ◌-◌, ◌≤◌, ◌<◌, ◌≡◌, refl, Bool, true, ◌&&◌, List, length, eqb}
use Rattle.std.proofs.Common.{arith, ap, ◌∙◌, subst}
use borrow.Author.Tests.{eqb-true, leb-true}
use Rattle.codec.specs.CaseLaws.{both_true, by_bool, by_order}
use Rattle.text.specs.Trim.{trimmed_len}
use Rattle.columns_check.specs.Tree.{kind_of, start_of, len_of, x_of, y_of, owner_of, text_of, symbols_from, intervals_from, mappings_from, run, symbol_rows, partial_rows, list_rows}
use Rattle.columns_check.specs.Check.{every, is_day, numbers_fit, span_fits, ends_well, row_fits, mapped}
use Rattle.columns_check.specs.RowFaults.{heads}

-- ---- the mappings' rows

-- n rows from row r on, where `due` intervals of the mapping in row `owner` are still to come: no row, a mapping, or one of its intervals
pub data Placed (t : List ℕ) : ℕ → ℕ → ℕ → ℕ → Type 0 where
  done : {r owner : ℕ} → Placed t r zero owner zero
  mapping : {r n owner : ℕ} → kind_of t r ≡ 3 → Placed t (r + 1) n r (x_of t r) → Placed t r (suc n) owner zero
  interval : {r n owner due : ℕ} → kind_of t r ≡ 4 → owner_of t r ≡ owner → Placed t (r + 1) n owner due → Placed t r (suc n) owner (suc due)

-- rows that are mapped stand so
pub placed : (t : List ℕ) (r n owner due : ℕ) → mapped t r n owner due ≡ true → Placed t r n owner due
placed t r zero owner zero e = done
placed t r zero owner (suc due) e = absurd (omega (arith, eqb-true (suc due) 0 e))
placed t r (suc n) owner zero e =
    let (a, b) = both_true (eqb (kind_of t r) 3) (mapped t (r + 1) n r (x_of t r)) e in
    mapping (eqb-true (kind_of t r) 3 a) (placed t (r + 1) n r (x_of t r) b)
placed t r (suc n) owner (suc due) e =
    let (a, b) = both_true (eqb (kind_of t r) 4) (eqb (owner_of t r) owner && mapped t (r + 1) n owner due) e in
    let (o, m) = both_true (eqb (owner_of t r) owner) (mapped t (r + 1) n owner due) b in
    interval (eqb-true (kind_of t r) 4 a) (eqb-true (owner_of t r) owner o) (placed t (r + 1) n owner due m)

-- no more intervals are to come than there are rows
pub due_le : {t : List ℕ} {r n owner due : ℕ} → Placed t r n owner due → due ≤ n
due_le done = omega arith
due_le (mapping k p) = omega arith
due_le (interval k o p) = omega (arith, due_le p)

module _ (width : ℕ) (t text : List ℕ) where
  -- those that are to come are the next that stand there
  pub intervals-count : {r n owner due : ℕ} → Placed t r n owner due → length (intervals_from width t text r n) ≡ due
  intervals-count done = refl
  intervals-count (mapping k p) = rw k
  intervals-count (interval k o p) = rw k (ap suc (intervals-count p))

  -- each row of kind 3 is a mapping
  pub mappings-count : (r n : ℕ) → length (mappings_from width t text r n) ≡ heads t r n
  mappings-count r zero = refl
  mappings-count r (suc n) =
      by_bool (eqb (kind_of t r) 3)
      (λ e. rw e (ap suc (mappings-count (r + 1) n) ∙ omega arith))
      (λ e. rw e (mappings-count (r + 1) n ∙ omega arith))

  -- each row of a list is a symbol
  pub symbols-count : (r n : ℕ) → length (symbols_from width t text r n) ≡ n
  symbols-count r zero = refl
  symbols-count r (suc n) = ap suc (symbols-count (r + 1) n)

-- ---- a test of many rows

module _ (f : ℕ → Bool) where
  -- what holds of n rows holds of each
  pub every-at : (r n : ℕ) → every f r n ≡ true → (j : ℕ) → r ≤ j → j < r + n → f j ≡ true
  every-at r zero e j a b = absurd (omega arith)
  every-at r (suc n) e j a b =
      let (h, rest) = both_true (f r) (every f (r + 1) n) e in
      by_order r j
      (λ lt. every-at (r + 1) n rest j (omega arith) (omega arith))
      (λ eq. subst (λ (k : ℕ). f k ≡ true) eq h)
      (λ gt. absurd (omega arith))

  -- what holds of each of n rows holds of them
  pub every-all : (r n : ℕ) → ((j : ℕ) → r ≤ j → j < r + n → f j ≡ true) → every f r n ≡ true
  every-all r zero h = refl
  every-all r (suc n) h = rw (h r (omega arith) (omega arith)) (every-all (r + 1) n (λ j a b. h j (omega arith) (omega arith)))

-- ---- one row

module _ (t text : List ℕ) (r : ℕ) (e : row_fits t text r ≡ true) where
  -- its numbers, span and text
  fits : (numbers_fit t r ≡ true) × (span_fits t text r ≡ true) × (ends_well (text_of t text r) ≡ true)
  unfolding row_fits
  fits =
      let (a, b) = both_true (numbers_fit t r) (span_fits t text r && ends_well (text_of t text r)) e in
      let (s, w) = both_true (span_fits t text r) (ends_well (text_of t text r)) b in
      (a, s, w)

  -- the text of a row that fits lies in the text
  pub row-span : start_of t r + len_of t r ≤ length text
  row-span = leb-true (start_of t r + len_of t r) (length text) fits.1

  -- and does not end in a NUL
  pub row_ends : trimmed_len (text_of t text r) ≡ length (text_of t text r)
  row_ends = eqb-true (trimmed_len (text_of t text r)) (length (text_of t text r)) fits.2

  -- the days of an interval are days
  pub interval_days : kind_of t r ≡ 4 → (x_of t r ≤ 3652424) × (y_of t r ≤ 3652424)
  unfolding numbers_fit
  interval_days h = let (x, y) = both_true (is_day (x_of t r)) (is_day (y_of t r)) (rw h at fits.0) in (leb-true (x_of t r) 3652424 x, leb-true (y_of t r) 3652424 y)

-- ---- the rows of a kind

module _ (kind : ℕ) (t : List ℕ) where
  -- they are rows
  pub run-le : (r n : ℕ) → run kind t r n ≤ n
  run-le r zero = omega arith
  run-le r (suc n) = by_bool (eqb (kind_of t r) kind) (λ e. rw e (omega (arith, run-le (r + 1) n))) (λ e. rw e (omega arith))

  -- each is of that kind
  pub run-kind : (r n j : ℕ) → r ≤ j → j < r + run kind t r n → kind_of t j ≡ kind
  run-kind r zero j a b = absurd (omega arith)
  run-kind r (suc n) j a b =
      by_bool (eqb (kind_of t r) kind)
      (λ e. by_order r j
      (λ lt. run-kind (r + 1) n j (omega arith) (let h : j < r + suc (run kind t (r + 1) n) = rw e at b in omega arith))
      (λ eq. subst (λ (k : ℕ). kind_of t k ≡ kind) eq (eqb-true (kind_of t r) kind e))
      (λ gt. absurd (omega arith)))
      (λ e. absurd (let h : j < r + 0 = rw e at b in omega arith))

-- the lists are rows
pub lists-le : (t : List ℕ) (n : ℕ) → list_rows t n ≤ n
lists-le t n =
    omega (
      arith,
      run-le 0 t 0 n,
      run-le 1 t (symbol_rows t n) (n - symbol_rows t n),
      run-le 2 t (symbol_rows t n + partial_rows t n) (n - (symbol_rows t n + partial_rows t n)),
    )
