-- What the reader answers, and what it leaves in the table.
-- Assumes nothing.
use Rattle.std.specs.Prelude.{Result, Ok, Err, ℕ, ◌/◌, ◌≡◌, Bool, ◌&&◌, cond, List, ◌∷◌, length, leb}
use Rattle.codec.specs.Codec.{Res, ok, refuse}
use Rattle.table.specs.Columns.{columns}
use Rattle.symbology_format.specs.Contents.{contents_numbers}
use Rattle.symbology_format.specs.Symbology.{Symbology}
use Rattle.symbology_format.specs.SymbologyRows.{symbology_rows}
use Rattle.refusal.specs.declared.Refusal.{Refusal}
use Rattle.symbology.specs.declared.Section.{Section}
use Rattle.symbology.specs.declared.Section.TheVariants as Section'

-- what refuses a symbology: 13 for its size, 28 where it leaves bytes of its section over, else a number of its contents
abbrev pub symbology_numbers : List ℕ
symbology_numbers = 13 ∷ 28 ∷ contents_numbers

-- the rows are written where `write` holds and a table of cap rows is long enough; else they are counted
unfoldable pub section_answer : Bool → ℕ → Res Symbology → Result Section Refusal
section_answer write cap (ok t j) = cond (write && leb (length (symbology_rows t)) cap) (Ok (Section'.Read (length (symbology_rows t)) j)) (Ok (Section'.Counted (length (symbology_rows t))))
section_answer write cap (refuse k) = Err k

-- then the rows stand in the table by column, and the rest of it is as it was
unfoldable pub section_table : Bool → List ℕ → Res Symbology → List ℕ
section_table write t (ok l j) = cond (write && leb (length (symbology_rows l)) (length t / 6)) (columns 6 (symbology_rows l) t) t
section_table write t (refuse k) = t

-- what reading z into the table t answers and leaves, where the rows are to be written only if `write` holds
pub record SectionPromise (write : Bool) (z : Res Symbology) (t t' : List ℕ) (r : Result Section Refusal) : Type 0 where
  pub is : r ≡ section_answer write (length t / 6) z
  pub leaves : t' ≡ section_table write t z

-- ---- the numbers of document 01

-- 0 for what is accepted, its rows written or counted
abbrev pub section_number : Result Section Refusal → ℕ
section_number (Ok x) = 0
section_number (Err k) = k.number
