-- What each way out of `check_columns` gives. Assumes nothing.
use Prim.Native.Nat.{ℕ, ◌+◌, ◌-◌, ◌/◌, ◌≤◌, ◌<◌}
use native.Mathlib.Nat.{sub-zero, zero-add}
use native.Mathlib.Omega.{arith}
use mathlib.Core.Path.{◌≡◌, ◌∙◌}
use mathlib.Core.Bool.{true, false}
use mathlib.Core.List.{List}
use lib.ListN.{length}
use borrow.Author.Tests.{le-leb, lt-leb}
use Rattle.columns_check.specs.Tree.{run, symbol_rows, partial_rows, not_found_rows, list_rows, symbology_of}
use Rattle.columns_check.specs.Check.{every, row_fits, mapped, well_formed, narrow, columns_of}
use Rattle.codec.specs.Telling.{passed}
use Rattle.columns_check.specs.RowFaults.{heads, rows_fault}
use Rattle.columns_check.specs.RowLaws.{symbols-count, mappings-count}
use Rattle.columns_check.specs.FaultLaws.{symbology-fault}
use Rattle.std.specs.Prelude.{Result, Ok, Err}
use Rattle.refusal.specs.declared.Refusal.{Refusal}
use Rattle.columns_check.specs.declared.Unfit.TheVariants.{Malformed, Wide}

-- ---- where the lists end

pub record Ends (t : List ℕ) (n one two lists : ℕ) : Type 0 where
  pub symbols : one ≡ symbol_rows t n
  pub partial : two ≡ symbol_rows t n + partial_rows t n
  pub all : lists ≡ list_rows t n

pub ends : (t : List ℕ) (n one two lists : ℕ) → one ≡ 0 + run 0 t 0 (n - 0) → two ≡ one + run 1 t one (n - one) → lists ≡ two + run 2 t two (n - two) → Ends t n one two lists
ends t n one two lists a b c = record { symbols = first; partial = second; all = c ∙ rw second }
  where
    first : one ≡ symbol_rows t n
    first = a ∙ rw (sub-zero n) (zero-add (symbol_rows t n))

    second : two ≡ symbol_rows t n + partial_rows t n
    second = b ∙ rw first

-- ---- whether the rows are well formed

module _ (t : List ℕ) (n : ℕ) (text : List ℕ) where
  pub too_many : length t / 6 < n → well_formed t n text ≡ false
  unfolding well_formed
  too_many h = rw (lt-leb n (length t / 6) h)

  pub too_large : n ≤ length t / 6 → 4294967295 < n → well_formed t n text ≡ false
  unfolding well_formed
  too_large h l = rw (le-leb n (length t / 6) h, lt-leb n 4294967295 l)

  module _ (h : n ≤ length t / 6) (l : n ≤ 4294967295) where
    pub unfit : every (row_fits t text) 0 n ≡ false → well_formed t n text ≡ false
    unfolding well_formed
    unfit e = rw (le-leb n (length t / 6) h, le-leb n 4294967295 l, e)

    pub formed : {one two lists : ℕ} → every (row_fits t text) 0 n ≡ true → Ends t n one two lists → well_formed t n text ≡ mapped t lists (n - lists) 0 0
    unfolding well_formed
    formed e at = rw (le-leb n (length t / 6) h, le-leb n 4294967295 l, e, at.all)

-- ---- the answer

module _ (width : ℕ) (t : List ℕ) (n : ℕ) (text : List ℕ) where
  pub malformed : well_formed t n text ≡ false → Err Malformed ≡ columns_of width t n text
  unfolding columns_of
  malformed e = rw e

  pub wide : well_formed t n text ≡ true → narrow width t n ≡ false → Err Wide ≡ columns_of width t n text
  unfolding columns_of
  wide e e' = rw (e, e')

  pub rows : {one two lists m : ℕ} {k : Result (Unit {0}) Refusal} → well_formed t n text ≡ true → narrow width t n ≡ true → Ends t n one two lists → m ≡ heads t lists (n - lists) → k ≡ passed (rows_fault width t text 0 n)
      → Ok (record { symbols = one; partial = two - one; not_found = lists - two; mappings = m; fault = k }) ≡ columns_of width t n text
  unfolding columns_of symbology_of
  rows e e' at m k =
      let p : symbol_rows t n + partial_rows t n - symbol_rows t n ≡ partial_rows t n = omega arith in
      let f : list_rows t n - (symbol_rows t n + partial_rows t n) ≡ not_found_rows t n = omega arith in
      rw (
        e,
        e',
        symbology-fault width t text n e,
        m,
        k,
        at.symbols,
        at.partial,
        at.all,
        p,
        f,
        symbols-count width t text 0 (symbol_rows t n),
        symbols-count width t text (symbol_rows t n) (partial_rows t n),
        symbols-count width t text (symbol_rows t n + partial_rows t n) (not_found_rows t n),
        mappings-count width t text (list_rows t n) (n - list_rows t n),
      )
