-- What the parts of the check answer. Assumes nothing.
use Rattle.std.specs.Prelude.{ℕ, ◌+◌, ◌*◌, ◌≤◌, ◌<◌, min, ◌≡◌, Bool, true, false, cond, List, eqb, Result, Ok, Err, Option, Some, None}
use Rattle.rows_check.specs.Tree.{cell, row_count, by_kind, kinds}
use Rattle.rows_check.specs.Check.{both, row_fits, count_fits, name_short, name_clean, passes, walk, size, fault}
use Rattle.codec.specs.Codec.{refusal}
use Rattle.layout.specs.LayoutOf.{D}
use Rattle.refusal.specs.declared.Refusal.{Refusal}
use Rattle.rows_check.specs.declared.Size.{Size}
use Rattle.rows_check.specs.declared.order.Groups.{Groups}
use Rattle.rows_check.specs.declared.order.Reached.{Reached}

-- the row passes 90 to 93
unfoldable pub row_good : List ℕ → List ℕ → ℕ → Bool
row_good rows text q = both (row_fits rows text q) (both (count_fits rows q) (both (name_short rows q) (name_clean rows text q)))

-- where b holds every row passes the test
pub record AllGood (b : Bool) (which : ℕ) (rows text : List ℕ) : Type 0 where
  pub passed : b ≡ true → passes which rows text 0 (row_count rows) ≡ true

-- n sections of that kind from row q on end at row r, where no further one begins
pub record Ends (kind : ℕ) (rows text : List ℕ) (q n r : ℕ) : Type 0 where
  pub walked : walk kind rows text q n ≡ r
  pub inside : r ≤ row_count rows
  pub stops : r < row_count rows → cell rows r 0 ≡ kind → ⊥

-- n sections end at row r, which lies past the rows where no number of sections ends
pub record Reaches (kind : ℕ) (rows text : List ℕ) (q n r : ℕ) : Type 0 where
  pub ends : r ≤ row_count rows → Ends kind rows text q n r
  pub only : (m s : ℕ) → Ends kind rows text q m s → s ≡ r

-- the row after all sections of that kind from row q on, and how many they are; nothing where no number of sections ends
abbrev pub Walked : ℕ → List ℕ → List ℕ → ℕ → Option Reached → Type 0
Walked kind rows text q (Some w) = Reaches kind rows text q w.count w.row
Walked kind rows text q None = (m s : ℕ) → Ends kind rows text q m s → ⊥

-- the numbers are those of the rows that begin a record, a struct and a label def
pub record Counted (rows : List ℕ) (g : Groups) : Type 0 where
  pub records : g.records ≡ kinds rows 10
  pub structs : g.structs ≡ kinds rows 13
  pub labels : g.labels ≡ kinds rows 14

-- whether x holds, and where it does how many rows begin a record, a struct and a label def
abbrev pub Counts : Bool → List ℕ → Option Groups → Type 0
Counts x rows (Some g) = (x ≡ true) × Counted rows g
Counts x rows None = x ≡ false

-- the length of a section's body with n fields or labels, names apart
unfoldable pub nameless_size : ℕ → ℕ → ℕ
nameless_size kind n = by_kind kind (18 + D * n) (6 + D * n) (4 + 2 * n)

-- a size, as far as 2^32
abbrev pub clip : ℕ → ℕ
clip n = min 4294967296 n

-- a size: 2^32 where a section is too long or the sum is
unfoldable pub size_of : Bool → ℕ → ℕ
size_of b n = cond b (min 4294967296 n) 4294967296

-- the length of a layout and the counts of its records, structs and label defs, or the refusal
abbrev pub Sized : Type 0
Sized = Result Size Refusal

-- the length of a `whole` layout, else 0, and the counts of its records, structs and label defs
unfoldable pub made : Bool → List ℕ → List ℕ → Sized
made whole rows text = Ok (record { bytes = cond whole (size rows text) 0; records = kinds rows 10; structs = kinds rows 13; labels = kinds rows 14 })

-- x, or the number that refuses it, which is about no byte
abbrev pub unless : ℕ → Sized → Sized
unless k x = cond (eqb 0 k) x (Err (refusal k 0))

-- what the rows make, or the number that refuses them
unfoldable pub sized_of : Bool → List ℕ → List ℕ → Sized
sized_of whole rows text = unless (fault whole rows text) (made whole rows text)

-- the number of document 01: 0 for rows that pass
abbrev pub sized_number : Sized → ℕ
sized_number (Ok z) = 0
sized_number (Err e) = e.number
