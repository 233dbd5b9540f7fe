-- What the reader answers, and what it leaves in the table.
-- Assumes nothing.
use Rattle.std.specs.Prelude.{Result, Ok, Err, ℕ, ◌/◌, ◌≡◌, Bool, ◌&&◌, cond, List, length, leb}
use Rattle.codec.specs.Codec.{Res, ok, refuse}
use Rattle.table.specs.Columns.{columns}
use Rattle.symbology_format.specs.Symbology.{Symbology}
use Rattle.symbology_format.specs.SymbologyRows.{symbology_rows}
use Rattle.refusal.specs.declared.Refusal.{Refusal}
use Rattle.symbology_rows.specs.declared.Rows.{Rows}
use Rattle.symbology_rows.specs.declared.Rows.TheVariants as Rows'

-- without a table: the rows and the place after the contents
unfoldable pub found : Res Symbology → Result (ℕ × ℕ) Refusal
found (ok t j) = Ok (length (symbology_rows t), j)
found (refuse k) = Err k

-- whether the rows of what ends at j are written: where `write` holds, j is not before `least`, and a table of cap rows is long enough
abbrev pub writes : Bool → ℕ → ℕ → Symbology → ℕ → Bool
writes write least cap t j = write && (leb least j && leb (length (symbology_rows t)) cap)

unfoldable pub rows_answer : Bool → ℕ → ℕ → Res Symbology → Result Rows Refusal
rows_answer write least cap (ok t j) = cond (writes write least cap t j) (Ok (Rows'.Read (length (symbology_rows t)) j)) (Ok (Rows'.Counted (length (symbology_rows t)) j))
rows_answer write least cap (refuse k) = Err k

-- then the rows stand in the table by column, and the rest of it is as it was
unfoldable pub rows_table : Bool → ℕ → List ℕ → Res Symbology → List ℕ
rows_table write least t (ok x j) = cond (writes write least (length t / 6) x j) (columns 6 (symbology_rows x) t) t
rows_table write least t (refuse k) = t

-- what reading z into the table t answers and leaves
pub record RowsPromise (write : Bool) (least : ℕ) (z : Res Symbology) (t t' : List ℕ) (r : Result Rows Refusal) : Type 0 where
  pub is : r ≡ rows_answer write least (length t / 6) z
  pub leaves : t' ≡ rows_table write least t z
