-- What a caller may use of the reader's definitions. Assumes nothing.
use Rattle.std.specs.Prelude.{Result, Ok, Err, ℕ, ◌+◌, ◌/◌, ◌≤◌, ◌≡◌, refl, Bool, List, length}
use Rattle.std.proofs.Common.{sym, ◌∙◌, le-leb}
use Rattle.std.proofs.Math.Path.{subst}
use Rattle.std.proofs.Math.Bool.{true, false, cond}
use Rattle.refusal.specs.declared.Refusal.{Refusal}
use Rattle.codec.specs.Codec.{Res, ok, refuse}
use Rattle.text.specs.Utf8.{utf8}
use Rattle.padded.specs.Padded.{nul_padded}
use Rattle.dates.specs.Date.{is_date}
use Rattle.table.specs.Columns.{columns}
use Rattle.symbology_format.specs.Symbology
use Rattle.symbology_format.specs.Symbology.{Symbology}
use Rattle.symbology_format.specs.SymbologyRows.{symbology_rows}
use Rattle.symbology_rows.specs.Reader.{symbology_of}
use Rattle.symbology_rows.specs.Answers.{writes, rows_answer, rows_table, RowsPromise}
use Rattle.symbology_rows.specs.declared.Rows.{Rows}
use Rattle.symbology_rows.specs.declared.Rows.TheVariants as Rows'

-- a symbology in a block of a length that fits is read by its format
pub symbology-parse : (width base : ℕ) (s : List ℕ) → base + length s ≤ 4294967295 → symbology_of width base s ≡ (Symbology.symbology utf8 nul_padded is_date width).codec.parse base s 0
unfolding symbology_of
symbology-parse width base s h = rw (le-leb (base + length s) 4294967295 h)

-- ---- what an answer says

-- what was read has n rows and ends at j, and whether the rows were written
pub record Gave (written write : Bool) (least : ℕ) (z : Res Symbology) (t t' : List ℕ) (n j : ℕ) : Type 0 where
  pub tree : Symbology
  pub is : z ≡ ok tree j
  pub many : length (symbology_rows tree) ≡ n
  pub room : writes write least (length t / 6) tree j ≡ written
  pub leaves : t' ≡ cond written (columns 6 (symbology_rows tree) t) t

data Says (write : Bool) (least : ℕ) (z : Res Symbology) (t t' : List ℕ) : Result Rows Refusal → Type 0 where
  read : {n j : ℕ} → Gave true write least z t t' n j → Says write least z t t' (Ok (Rows'.Read n j))
  counted : {n j : ℕ} → Gave false write least z t t' n j → Says write least z t t' (Ok (Rows'.Counted n j))
  no : {k : Refusal} → z ≡ refuse k → t' ≡ t → Says write least z t t' (Err k)

module _ {write : Bool} {least : ℕ} {z : Res Symbology} {t t' : List ℕ} {r : Result Rows Refusal} (f : RowsPromise write least z t t' r) where
  says : {r' : Result Rows Refusal} → r ≡ r' → Says write least z t t' r'
  unfolding rows_answer rows_table
  says e = subst (Says write least z t t') (sym f.is ∙ e) (go z f.leaves)
    where
      by : (x : Symbology) (j : ℕ) (b : Bool) → writes write least (length t / 6) x j ≡ b → t' ≡ cond b (columns 6 (symbology_rows x) t) t
          → Says write least (ok x j) t t' (cond b (Ok (Rows'.Read (length (symbology_rows x)) j)) (Ok (Rows'.Counted (length (symbology_rows x)) j)))
      by x j true q l = read (record { tree = x; is = refl; many = refl; room = q; leaves = l })
      by x j false q l = counted (record { tree = x; is = refl; many = refl; room = q; leaves = l })

      go : (z : Res Symbology) → t' ≡ rows_table write least t z → Says write least z t t' (rows_answer write least (length t / 6) z)
      go (ok x j) l = by x j (writes write least (length t / 6) x j) refl l
      go (refuse k) l = no {k = k} refl l

  pub gave_read : {n j : ℕ} → r ≡ Ok (Rows'.Read n j) → Gave true write least z t t' n j
  gave_read {n} {j} e = go (says e)
    where
      go : Says write least z t t' (Ok (Rows'.Read n j)) → Gave true write least z t t' n j
      go (read w) = w

  pub gave_counted : {n j : ℕ} → r ≡ Ok (Rows'.Counted n j) → Gave false write least z t t' n j
  gave_counted {n} {j} e = go (says e)
    where
      go : Says write least z t t' (Ok (Rows'.Counted n j)) → Gave false write least z t t' n j
      go (counted w) = w

  pub gave_refused : {k : Refusal} → r ≡ Err k → (z ≡ refuse k) × (t' ≡ t)
  gave_refused {k} e = go (says e)
    where
      go : Says write least z t t' (Err k) → (z ≡ refuse k) × (t' ≡ t)
      go (no q l) = (q, l)
