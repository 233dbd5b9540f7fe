-- How many bytes the symbology has that well formed and narrow rows stand for. Assumes nothing.
use Rattle.std.specs.Prelude.{ℕ, zero, suc, ◌+◌, ◌-◌, ◌*◌, ◌<◌, ◌≡◌, true, List, ◌++◌, length}
use Rattle.std.proofs.Common.{mul-zero, mul-suc, mul-add, arith, sym, ap, ◌∙◌, length-append}
use Rattle.codec.specs.Codec.{little}
use Rattle.codec.proofs.Laws.{length-little}
use Rattle.text.specs.Utf8.{utf8}
use Rattle.padded.specs.Padded.{nul_padded}
use Rattle.dates.specs.Date.{is_date}
use Rattle.dates.specs.Day.{date_of_day}
use Rattle.symbology_format.specs.Symbology.{symbology}
use Rattle.columns_check.specs.Tree.{kind_of, x_of, y_of, text_of, filled, run, symbol_rows, partial_rows, not_found_rows, list_rows, symbology_of}
use Rattle.columns_check.specs.Check.{well_formed, narrow}
use Rattle.columns_check.specs.RowFaults.{heads}
use Rattle.columns_check.specs.RowLaws.{Placed, done, mapping, interval, mappings-count, run-kind, lists-le}
use Rattle.columns_check.specs.FitLaws.{Along, formed, Good, Goods, first-of, next_of, all-good, good_length}
use Rattle.columns_check.specs.SizedLaws.{heads-le}
use Rattle.columns_check.specs.PrintLaws.{printed_row, printed_rows, printed_list_rows, list-row, mapping-row, interval-row, columns-print}

module _ (width : ℕ) (t text : List ℕ) where
  -- ---- one row

  pub list-row-length : (r : ℕ) → kind_of t r < 3 → Good width t text r → length (printed_row width t text r) ≡ width
  list-row-length r k g = ap length (list-row width t text r k) ∙ good_length width t text r g

  pub mapping-row-length : (r : ℕ) → kind_of t r ≡ 3 → Good width t text r → length (printed_row width t text r) ≡ width + 4
  mapping-row-length r k g =
      ap length (mapping-row width t text r k)
      ∙ length-append (filled width (text_of t text r)) (little 4 (x_of t r))
      ∙ omega (arith, good_length width t text r g, length-little 4 (x_of t r))

  pub interval-row-length : (r : ℕ) → kind_of t r ≡ 4 → Good width t text r → length (printed_row width t text r) ≡ width + 8
  interval-row-length r k g =
      let x = little 4 (date_of_day (x_of t r)) in
      let y = little 4 (date_of_day (y_of t r)) in
      ap length (interval-row width t text r k)
      ∙ length-append x (y ++ filled width (text_of t text r))
      ∙ omega (arith, good_length width t text r g, length-append y (filled width (text_of t text r)), length-little 4 (date_of_day (x_of t r)), length-little 4 (date_of_day (y_of t r)))

  -- ---- many

  -- of lists
  list-rows-length : (r n : ℕ) → Along (λ j. kind_of t j < 3) r n → Goods width t text r n → length (printed_rows width t text r n) ≡ width * n
  list-rows-length r zero k g = sym (mul-zero width)
  list-rows-length r (suc n) k g =
      length-append (printed_row width t text r) (printed_rows width t text (r + 1) n)
      ∙ omega (
        arith,
        list-row-length r (first-of n k) (first-of n g),
        list-rows-length (r + 1) n (next_of n k) (next_of n g),
        mul-suc width n,
      )

  -- a list, with its count
  pub list_length : (kind r n : ℕ) → kind < 3 → Goods width t text r (run kind t r n) → length (printed_list_rows width t text r (run kind t r n)) ≡ 4 + width * run kind t r n
  list_length kind r n h g =
      let m = run kind t r n in
      length-append (little 4 m) (printed_rows width t text r m)
      ∙ omega (arith, length-little 4 m, list-rows-length r m (λ j a b. omega (arith, run-kind kind t r n j a b)) g)

  -- mappings and intervals
  pub mapping-rows-length : {r n owner due : ℕ} → Placed t r n owner due → Goods width t text r n → length (printed_rows width t text r n) ≡ width * n + 4 * heads t r n + 8 * (n - heads t r n)
  mapping-rows-length done g = omega (arith, mul-zero width)
  mapping-rows-length {r} (mapping {n = n} k p) g =
      rw k (
      length-append (printed_row width t text r) (printed_rows width t text (r + 1) n)
      ∙ omega (arith, mapping-row-length r k (first-of n g), mapping-rows-length p (next_of n g), mul-suc width n)
      )
  mapping-rows-length {r} (interval {n = n} k o p) g =
      rw k (
      length-append (printed_row width t text r) (printed_rows width t text (r + 1) n)
      ∙ omega (arith, interval-row-length r k (first-of n g), mapping-rows-length p (next_of n g), mul-suc width n, heads-le t (r + 1) n)
      )

-- ---- all

-- its mappings are the rows of kind 3 after the lists
pub mappings-are : (width : ℕ) (t : List ℕ) (n : ℕ) (text : List ℕ) → length (symbology_of width t n text).mappings ≡ heads t (list_rows t n) (n - list_rows t n)
unfolding symbology_of
mappings-are width t n text = mappings-count width t text (list_rows t n) (n - list_rows t n)

-- a width times a sum of four
products : (w a b c d n : ℕ) → n ≡ a + b + c + d → w * n ≡ w * a + w * b + w * c + w * d
products w a b c d n e = omega (arith, ap (λ (k : ℕ). w * k) e, mul-add w (a + b + c) d, mul-add w (a + b) c, mul-add w a b)

-- four counts, the symbols, a count of intervals for each mapping, two dates for each interval
pub columns-length : (width : ℕ) (t : List ℕ) (n : ℕ) (text : List ℕ) → well_formed t n text ≡ true → narrow width t n ≡ true
    → length ((symbology utf8 nul_padded is_date width).codec.print (symbology_of width t n text)) ≡ 16 + width * n + 4 * length (symbology_of width t n text).mappings + 8 * (n - list_rows t n - length (symbology_of width t n text).mappings)
columns-length width t n text e f =
    let a = symbol_rows t n in
    let b = partial_rows t n in
    let c = not_found_rows t n in
    let d = n - list_rows t n in
    let M = length (symbology_of width t n text).mappings in
    let l = lists-le t n in
    let good = all-good width t text n e f in
    let first = printed_list_rows width t text 0 a in
    let second = printed_list_rows width t text a b in
    let third = printed_list_rows width t text (a + b) c in
    let last = little 4 M ++ printed_rows width t text (list_rows t n) d in
    ap length (columns-print width t n text e)
    ∙ length-append first (second ++ (third ++ last))
    ∙ omega (
      arith,
      length-append second (third ++ last),
      length-append third last,
      length-append (little 4 M) (printed_rows width t text (list_rows t n) d),
      length-little 4 M,
      list_length width t text 0 0 n (omega arith) (good 0 a (omega arith)),
      list_length width t text 1 a (n - a) (omega arith) (good a b (omega arith)),
      list_length width t text 2 (a + b) (n - (a + b)) (omega arith) (good (a + b) c (omega arith)),
      mapping-rows-length width t text (formed t n text e).mappings (good (list_rows t n) d (omega arith)),
      mappings-are width t n text,
      products width a b c d n (omega arith),
    )
