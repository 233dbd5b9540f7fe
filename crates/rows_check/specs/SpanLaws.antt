-- The texts of rows that are well formed lie within the text. Assumes nothing.
use Prim.Native.Nat.{ℕ, zero, suc, ◌+◌, ◌≤◌, ◌<◌}
use Rattle.std.proofs.Common.{arith}
use Rattle.std.specs.Prelude.{◌≡◌, true, ◌&&◌, List, length, leb}
use Rattle.std.proofs.lemmas.Bool.{eqb-false}
use Rattle.table.specs.EachLaws.{Each, RowInside}
use Rattle.rows_check.specs.Tree.{cell, row_count, from, after, cells, rows_in}
use Rattle.rows_check.specs.Check.{row_fits}
use Rattle.rows_check.specs.CheckLaws.{both_left, both_right, row-span, Formed}

module _ (table text : List ℕ) where
  row-kind : (q : ℕ) → row_fits table text q ≡ true → (leb 10 (cell table q 0) && leb (cell table q 0) 15) ≡ true
  unfolding row_fits
  row-kind q e = rw (both_left (leb 10 (cell table q 0)) _ e) (both_left (leb (cell table q 0) 15) _ (both_right (leb 10 (cell table q 0)) _ e))

  row_lies_lem : (q : ℕ) → row_fits table text q ≡ true → RowInside 10 15 (length text) (cells table q)
  row_lies_lem q e = record { kind = row-kind q e; inside = λ h. row-span table text q e (eqb-false (cell table q 0) 11 h) }

  lie_from : (n q : ℕ) → ((j : ℕ) → q ≤ j → j < q + n → row_fits table text j ≡ true) → Each (RowInside 10 15 (length text)) (from after (cells table) q n)
  unfolding from
  lie_from zero q h = tt
  lie_from (suc n) q h = (row_lies_lem q (h q (omega arith) (omega arith)), lie_from n (q + 1) (λ j a b. h j (omega arith) (omega arith)))

  -- every row is of kind 10 to 15, and its text, where it is no field, lies within the text
  pub rows_in_lie : Formed table text → Each (RowInside 10 15 (length text)) (rows_in table)
  unfolding rows_in
  rows_in_lie w = lie_from (row_count table) 0 (λ j a b. w.fits j (omega arith))
