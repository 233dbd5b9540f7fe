-- The bytes of the symbology that well formed rows stand for, row by row, as a writer that walks the rows puts them.
-- Assumes nothing.
use Rattle.std.specs.Prelude.{ℕ, ◌+◌, ◌-◌, ◌<◌, ◌≡◌, true, cond, List, ◌++◌, map, length, leb, eqb}
use Rattle.std.proofs.Common.{arith, sym, ap, ap₂, ◌∙◌, append_assoc, le-leb}
use Rattle.codec.specs.Codec.{little}
use Rattle.text.specs.Utf8.{utf8}
use Rattle.padded.specs.Padded.{nul_padded}
use Rattle.dates.specs.Date.{is_date}
use Rattle.dates.specs.Day.{date_of_day}
use Rattle.table.specs.Table.{flat}
use Rattle.symbology_format.specs.Symbology.{symbology}
use Rattle.symbology_format.proofs.PrintLaws.{printed_interval, printed_mapping, printed_list, symbology-print}
use Rattle.columns_check.specs.Tree.{kind_of, x_of, y_of, text_of, filled, symbol_of, interval_of, symbols_from, mappings_from, run, symbol_rows, partial_rows, not_found_rows, list_rows, symbology_of}
use Rattle.columns_check.specs.Check.{well_formed}
use Rattle.columns_check.specs.RowLaws.{Placed, symbols-count, run-kind}
use Rattle.columns_check.specs.FitLaws.{formed}
use Rattle.columns_check.specs.JoinedLaws.{joined, joined-symbols, joined-mappings}

module _ (width : ℕ) (t text : List ℕ) where
  -- a row of a list prints its filled text; a mapping's its own, then how many intervals there are; an interval's two dates, then its own
  unfoldable pub printed_row : ℕ → List ℕ
  printed_row r =
      cond (leb (kind_of t r) 2) (filled width (text_of t text r))
      (cond (eqb (kind_of t r) 3) (filled width (text_of t text r) ++ little 4 (x_of t r))
      (little 4 (date_of_day (x_of t r)) ++ (little 4 (date_of_day (y_of t r)) ++ filled width (text_of t text r))))

  -- n rows from row r on
  abbrev pub printed_rows : ℕ → ℕ → List ℕ
  printed_rows r n = joined printed_row r n

  -- u32 count, then these rows
  abbrev pub printed_list_rows : ℕ → ℕ → List ℕ
  printed_list_rows r n = little 4 n ++ printed_rows r n

  -- ---- one row, by its kind

  pub list-row : (r : ℕ) → kind_of t r < 3 → printed_row r ≡ (symbol_of width t text r).text
  unfolding printed_row
  list-row r k = rw (le-leb (kind_of t r) 2 (omega arith))

  pub mapping-row : (r : ℕ) → kind_of t r ≡ 3 → printed_row r ≡ (symbol_of width t text r).text ++ little 4 (x_of t r)
  unfolding printed_row
  mapping-row r k = rw k

  pub interval-row : (r : ℕ) → kind_of t r ≡ 4 → printed_row r ≡ printed_interval (interval_of width t text r)
  unfolding printed_row
  interval-row r k = rw k

  -- ---- many

  -- a list
  list-printed : (kind r n : ℕ) → kind < 3 → printed_list (symbols_from width t text r (run kind t r n)) ≡ printed_list_rows r (run kind t r n)
  list-printed kind r n h =
      ap₂ (λ k u. little 4 k ++ u) (symbols-count width t text r (run kind t r n))
      (sym (joined-symbols width t text printed_row (λ s. s.text) r (run kind t r n) (λ j a b. list-row j (omega (arith, run-kind kind t r n j a b)))))

  -- the mappings
  mappings-printed : {r n owner : ℕ} → Placed t r n owner 0 → flat (map printed_mapping (mappings_from width t text r n)) ≡ printed_rows r n
  mappings-printed p =
      sym (joined-mappings width t text printed_row printed_interval (λ s k. s.text ++ little 4 k) printed_mapping
      (λ m. sym (append_assoc m.raw_symbol.text (little 4 (length m.intervals)) (flat (map printed_interval m.intervals)))) interval-row mapping-row p)

-- the three lists, each with its count; the count of the mappings, and the rows of the mappings and their intervals
pub columns-print : (width : ℕ) (t : List ℕ) (n : ℕ) (text : List ℕ) → well_formed t n text ≡ true
    → (symbology utf8 nul_padded is_date width).codec.print (symbology_of width t n text)
    ≡ printed_list_rows width t text 0 (symbol_rows t n)
    ++ (printed_list_rows width t text (symbol_rows t n) (partial_rows t n)
    ++ (printed_list_rows width t text (symbol_rows t n + partial_rows t n) (not_found_rows t n)
    ++ (little 4 (length (symbology_of width t n text).mappings) ++ printed_rows width t text (list_rows t n) (n - list_rows t n))))
unfolding symbology_of
columns-print width t n text e =
    symbology-print utf8 nul_padded is_date width (symbology_of width t n text)
    ∙ ap₂ ◌++◌ (list-printed width t text 0 0 n (omega arith))
    (ap₂ ◌++◌ (list-printed width t text 1 (symbol_rows t n) (n - symbol_rows t n) (omega arith))
    (ap₂ ◌++◌ (list-printed width t text 2 (symbol_rows t n + partial_rows t n) (n - (symbol_rows t n + partial_rows t n)) (omega arith))
    (ap (λ u. little 4 (length (symbology_of width t n text).mappings) ++ u) (mappings-printed width t text (formed t n text e).mappings))))
