-- The public reader's answers from what the rows' reader did. Assumes nothing.
use Rattle.std.specs.Prelude.{Ok, Err}
use Rattle.numbers.specs.Numbers.{Got}
use Rattle.numbers.specs.NumberLaws.{same_got}
use Prim.Native.Nat.{ℕ, ◌+◌, ◌/◌, ◌≤◌, ◌<◌}
use mathlib.Core.Path.{◌≡◌, refl, sym, ap, ◌∙◌, subst}
use mathlib.Core.Bool.{Bool, true, false}
use mathlib.Core.List.{List}
use native.Mathlib.Nat.{zero-add}
use native.Mathlib.Omega.{arith}
use lib.ListN.{length}
use borrow.Author.Tests.{le-leb, lt-leb}
use Rattle.refusal.specs.declared.Refusal.{Refusal}
use Rattle.codec.specs.Codec.{Res, ok, refuse, refusal}
use Rattle.codec.specs.CaseLaws.{by_le}
use Rattle.text.specs.Utf8.{utf8}
use Rattle.padded.specs.Padded.{nul_padded}
use Rattle.dates.specs.Date.{is_date}
use Rattle.table.specs.Table.{put_columns, said, answer, fill, Fills, Ran}
use Rattle.table.proofs.ColumnLaws.{fill-columns}
use Rattle.symbology_format.specs.Symbology
use Rattle.symbology_format.specs.Symbology.{Symbology}
use Rattle.symbology_format.specs.SymbologyRows.{symbology_rows}
use Rattle.symbology_rows.specs.Reader.{symbology_at, symbology_of}
use Rattle.symbology_rows.specs.Answers.{found, rows_answer, rows_table, RowsPromise}
use Rattle.symbology_format.proofs.LenientLaws.{no-tests}
use Rattle.symbology_rows.specs.ReadLaws.{symbology-parse}
use Rattle.symbology_format.specs.WidthLaws.{rows-of-six}
use Rattle.symbology_rows.specs.declared.Rows.TheVariants as Rows'

pub found_13 : (width base : ℕ) (s : List ℕ) → 4294967295 < base + length s → Err (refusal 13 0) ≡ found (symbology_of width base s)
unfolding symbology_of found
found_13 width base s h = rw (lt-leb (base + length s) 4294967295 h)

module _ (width base : ℕ) (s : List ℕ) {t t' : List ℕ} {r : Got} (h : base + length s ≤ 4294967295) (g : Ran (put_columns 6) base s (symbology_at false width base s 0) 0 t t' r) where
  pub found-is : r ≡ found (symbology_of width base s)
  unfolding symbology_of symbology_at found
  found-is = rw (le-leb (base + length s) 4294967295 h) (g.answered ∙ go ((Symbology.symbology utf8 nul_padded is_date width).codec.parse base s 0))
    where
      go : (z : Res Symbology.Symbology) → answer 0 (said symbology_rows z) ≡ found z
      go (ok z k) = ap (λ (x : ℕ). Ok (x, k)) (zero-add (length (symbology_rows z)))
      go (refuse k) = refl

-- ---- what a verdict says

found_at : (r : Res Symbology) {n q : ℕ} → Ok (n, q) ≡ found r → (z : Symbology) × (r ≡ ok z q) × (length (symbology_rows z) ≡ n)
unfolding found
found_at (ok z j) {n} {q} e = (z, ap (ok z) (sym (same_got e).1), sym (same_got e).0)
found_at (refuse k) e = absurd (let z : ◌≡◌ {A = ℕ} 0 1 = cc in omega arith)

found-bad : (r : Res Symbology) {k : Refusal} → Err k ≡ found r → r ≡ refuse k
unfolding found
found-bad (ok z j) e = absurd (let z : ◌≡◌ {A = ℕ} 0 1 = cc in omega arith)
found-bad (refuse j) {k} e = let z : j ≡ k = cc in ap refuse z

-- what an accepted symbology is
pub record Finds (width base : ℕ) (s : List ℕ) (n q : ℕ) : Type 0 where
  pub small : base + length s ≤ 4294967295
  pub z : Symbology
  pub read : (Symbology.symbology utf8 nul_padded is_date width).codec.parse base s 0 ≡ ok z q
  pub is : symbology_of width base s ≡ ok z q
  pub many : length (symbology_rows z) ≡ n

finds_at : (width base : ℕ) (s : List ℕ) {n q : ℕ} (y : Symbology) → symbology_of width base s ≡ ok y q → length (symbology_rows y) ≡ n → Finds width base s n q
unfolding symbology_of
finds_at width base s {n} {q} y e m =
    by_le (base + length s) 4294967295
    (λ h. record { small = h; z = y; read = sym (symbology-parse width base s h) ∙ e; is = e; many = m })
    (λ h. let g : refuse (refusal 13 0) ≡ ok y q = (rw (lt-leb (base + length s) 4294967295 h) at e) in absurd (let z : ◌≡◌ {A = ℕ} 0 1 = cc in omega arith))

pub finds : (width base : ℕ) (s : List ℕ) {n q : ℕ} → Ok (n, q) ≡ found (symbology_of width base s) → Finds width base s n q
finds width base s e = let (y, is, m) = found_at (symbology_of width base s) e in finds_at width base s y is m

-- ---- the rows in the table

module _ {width base : ℕ} {s : List ℕ} {n q : ℕ} (a : Finds width base s n q) {write : Bool} {least : ℕ} {t : List ℕ} where
  module _ (y : write ≡ true) (l : least ≤ q) where
    pub rows-read : {t' : List ℕ} {r : Got} → n ≤ length t / 6 → Ran (put_columns 6) base s (symbology_at true width base s 0) 0 t t' r → RowsPromise write least (symbology_of width base s) t t' (Ok (Rows'.Read n q))
    unfolding symbology_at rows_answer rows_table
    rows-read {t'} h g =
        let R : List (List ℕ) = symbology_rows a.z in
        let e = a.many in
        let h1 : length R ≤ length t / 6 = omega arith in
        let f : t' ≡ fill (put_columns 6) t 0 R = subst (λ (x : Res Symbology.Symbology). Fills (put_columns 6) t 0 (said symbology_rows x) t') ((no-tests utf8 nul_padded is_date width).reads base s 0 a.z q a.read) g.filled in
        record {
          is = rw (y, a.is, le-leb least q l, le-leb (length R) (length t / 6) h1, e);
          leaves = rw (y, a.is, le-leb least q l, le-leb (length R) (length t / 6) h1) (f ∙ fill-columns 6 (omega arith) R t (rows-of-six a.z) h1);
        }

    pub rows_short : length t / 6 < n → RowsPromise write least (symbology_of width base s) t t (Ok (Rows'.Counted n q))
    unfolding rows_answer rows_table
    rows_short h =
        let R : List (List ℕ) = symbology_rows a.z in
        let e = a.many in
        let h1 : length t / 6 < length R = omega arith in
        record { is = rw (y, a.is, le-leb least q l, lt-leb (length R) (length t / 6) h1, e); leaves = rw (y, a.is, le-leb least q l, lt-leb (length R) (length t / 6) h1) }

  pub rows_early : write ≡ true → q < least → RowsPromise write least (symbology_of width base s) t t (Ok (Rows'.Counted n q))
  unfolding rows_answer rows_table
  rows_early y l = record { is = rw (y, a.is, lt-leb least q l, a.many); leaves = rw (y, a.is, lt-leb least q l) }

  pub rows_unasked : write ≡ false → RowsPromise write least (symbology_of width base s) t t (Ok (Rows'.Counted n q))
  unfolding rows_answer rows_table
  rows_unasked y = record { is = rw (y, a.is, a.many); leaves = rw (y, a.is) }

pub rows-refused : (write : Bool) (least : ℕ) (z : Res Symbology) (t : List ℕ) {k : Refusal} → Err k ≡ found z → RowsPromise write least z t t (Err k)
unfolding rows_answer rows_table
rows-refused write least z t e = rw (found-bad z e) (record { is = refl; leaves = refl })
