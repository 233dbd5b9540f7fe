-- The symbology that well formed rows stand for has its sizes: each symbol its whole width, dates and counts four bytes. Assumes nothing.
use Rattle.std.specs.Prelude.{ℕ, zero, suc, ◌+◌, ◌-◌, ◌^◌, ◌≤◌, ◌<◌, ◌≡◌, true, List, eqb}
use Rattle.std.proofs.Common.{arith}
use Rattle.codec.specs.CaseLaws.{by_bool}
use Rattle.codec.specs.Codec.{Bytes}
use Rattle.codec.specs.Faults.{Every}
use Rattle.dates.specs.Day.{date_of_day}
use Rattle.dates.specs.DayLaws.{date-is, day-dated}
use Rattle.symbology_format.specs.SymbologyFaults.{SizedSymbol, SizedInterval, SizedMapping, SizedSymbology, Counted}
use Rattle.columns_check.specs.Tree.{kind_of, x_of, y_of, text_of, symbol_of, interval_of, symbols_from, intervals_from, mappings_from, symbol_rows, partial_rows, not_found_rows, list_rows, symbology_of}
use Rattle.columns_check.specs.Check.{well_formed, narrow}
use Rattle.columns_check.specs.RowFaults.{heads}
use Rattle.columns_check.specs.RowLaws.{Placed, done, mapping, interval, due_le, intervals-count, symbols-count, mappings-count, lists-le}
use Rattle.columns_check.specs.FilledLaws.{filled-bytes}
use Rattle.columns_check.specs.FitLaws.{formed, Good, Goods, first-of, next_of, all-good, good_length, text-bytes}

-- the date of a day has at most eight digits
date-small : (k : ℕ) → k ≤ 3652424 → date_of_day k < 256 ^ 4
date-small k h = omega (arith, (date-is (date_of_day k) (day-dated k h)).year)

-- mappings are rows
pub heads-le : (t : List ℕ) (r n : ℕ) → heads t r n ≤ n
heads-le t r zero = omega arith
heads-le t r (suc n) = by_bool (eqb (kind_of t r) 3) (λ e. rw e (omega (arith, heads-le t (r + 1) n))) (λ e. rw e (omega (arith, heads-le t (r + 1) n)))

module _ (width : ℕ) (t text : List ℕ) (bytes : Bytes text) where
  -- a symbol
  symbol-sized : (r : ℕ) → Good width t text r → SizedSymbol width (symbol_of width t text r)
  symbol-sized r g = (good_length width t text r g, filled-bytes width (text_of t text r) (text-bytes t text r bytes))

  -- symbols
  symbols-sized : (r n : ℕ) → Goods width t text r n → Every (SizedSymbol width) (symbols_from width t text r n)
  symbols-sized r zero g = tt
  symbols-sized r (suc n) g = (symbol-sized r (first-of n g), symbols-sized (r + 1) n (next_of n g))

  -- a list
  list-sized : (r n : ℕ) → n ≤ 4294967295 → Goods width t text r n → Counted (SizedSymbol width) (symbols_from width t text r n)
  list-sized r n h g = (omega (arith, symbols-count width t text r n), symbols-sized r n g)

  -- an interval
  interval-sized : (r : ℕ) → kind_of t r ≡ 4 → Good width t text r → SizedInterval width (interval_of width t text r)
  interval-sized r k g = (date-small (x_of t r) (g.0.from k), (date-small (y_of t r) (g.0.to k), symbol-sized r g))

  -- the intervals of one mapping
  intervals-sized : {r n owner due : ℕ} → Placed t r n owner due → Goods width t text r n → Every (SizedInterval width) (intervals_from width t text r n)
  intervals-sized done g = tt
  intervals-sized (mapping k p) g = rw k tt
  intervals-sized {r} (interval {n = n} k o p) g = rw k (interval-sized r k (first-of n g), intervals-sized p (next_of n g))

  -- the mappings
  mappings-sized : {r n owner due : ℕ} → Placed t r n owner due → n ≤ 4294967295 → Goods width t text r n → Every (SizedMapping width) (mappings_from width t text r n)
  mappings-sized done h g = tt
  mappings-sized {r} (mapping {n = n} k p) h g =
      rw k (
        (symbol-sized r (first-of n g), (omega (arith, intervals-count width t text p, due_le p), intervals-sized p (next_of n g))),
        mappings-sized p (omega arith) (next_of n g),
      )
  mappings-sized {r} (interval {n = n} k o p) h g = rw k (mappings-sized p (omega arith) (next_of n g))

-- of all rows
pub symbology-sized : (width : ℕ) (t : List ℕ) (n : ℕ) (text : List ℕ) → Bytes text → well_formed t n text ≡ true → narrow width t n ≡ true → SizedSymbology width (symbology_of width t n text)
unfolding symbology_of
symbology-sized width t n text bytes e f =
    let w = formed t n text e in
    let l = lists-le t n in
    let m = w.small in
    let good = all-good width t text n e f in
    record {
      symbols = list-sized width t text bytes 0 (symbol_rows t n) (omega arith) (good _ _ (omega arith));
      partial = list-sized width t text bytes (symbol_rows t n) (partial_rows t n) (omega arith) (good _ _ (omega arith));
      not_found = list-sized width t text bytes (symbol_rows t n + partial_rows t n) (not_found_rows t n) (omega arith) (good _ _ (omega arith));
      mappings = (omega (arith, mappings-count width t text (list_rows t n) (n - list_rows t n), heads-le t (list_rows t n) (n - list_rows t n)), mappings-sized width t text bytes w.mappings (omega arith) (good _ _ (omega arith)));
    }
