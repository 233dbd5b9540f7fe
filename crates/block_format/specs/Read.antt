-- A block's answer and the two tables after it, as functions of the version, the block, the sheet and the tables. Assumes nothing.
use Rattle.block_format.specs.declared.Fields.{Fields}
use Rattle.block_format.specs.declared.ReadError.{ReadError}
use Rattle.std.specs.Prelude.{ℕ, ◌*◌, ◌/◌, Bool, ◌&&◌, cond, ◌≡◌, List, ◌∷◌, ◌++◌, length, drop, leb, Result, Ok, Err}
use Rattle.codec.specs.Codec.{Res, ok, refuse}
use Rattle.layout.specs.Rows.{rows}
use Rattle.layout.specs.Answers.{wire_numbers}
use Rattle.item_rules.specs.Rules.{rule_numbers}
use Rattle.symbology_format.specs.SymbologyRows.{symbology_rows}
use Rattle.symbology_format.specs.Contents.{contents_numbers}
use Rattle.table.specs.Table.{flat}
use Rattle.table.specs.Columns.{columns}
use Rattle.metadata_lengths.specs.Lengths.{lengths}
use Rattle.block_format.specs.Block.{Block, block_of}
use Rattle.block_format.specs.Fields.{fields_of}
use Rattle.metadata_lengths.specs.declared.MetadataLengths.{MetadataLengths}

-- a block's rows: symbology in sixes, starts counted from the block; layout in nines, starts counted from the layout. The table of symbology has its
-- rows by column, that of the layout one after the other
abbrev pub sixes : Block → List (List ℕ)
sixes b = symbology_rows b.symbology

abbrev pub nines : Block → List (List ℕ)
nines b = rows b.layout

-- both tables, of so many numbers, hold the rows
abbrev pub roomy : Block → ℕ → ℕ → Bool
roomy b m n = leb (length (sixes b)) (m / 6) && leb (length (nines b)) (n / 9)

-- what refuses a block of a known version and size: its header, its sections, the symbology's contents, the layout's bytes, the rules
abbrev pub body_numbers : List ℕ
body_numbers = 20 ∷ 21 ∷ 22 ∷ 23 ∷ 24 ∷ 25 ∷ 26 ∷ 27 ∷ 28 ∷ 29 ∷ 44 ∷ 45 ∷ (contents_numbers ++ (wire_numbers ++ rule_numbers))

-- what refuses a block: its version, its size, and these
abbrev pub block_numbers : List ℕ
block_numbers = 11 ∷ 13 ∷ 20 ∷ 21 ∷ 22 ∷ 23 ∷ 24 ∷ 25 ∷ 26 ∷ 27 ∷ 28 ∷ 29 ∷ 44 ∷ 45 ∷ (contents_numbers ++ (wire_numbers ++ rule_numbers))

-- refused; or all is accepted and the tables are long enough; or 3, with the rows needed of both
unfoldable pub answer_of : MetadataLengths → Res (Block × List ℕ) → ℕ → ℕ → Result Fields ReadError
answer_of v (refuse k) m n = Err (ReadError.Refused k)
answer_of v (ok z j) m n = cond (roomy z.0 m n) (Ok (fields_of v z.0)) (Err (ReadError.Short (length (sixes z.0)) (length (nines z.0))))

-- rows over the front of a table
abbrev pub over : List (List ℕ) → ℕ → List ℕ → List ℕ
over rs w t = flat rs ++ drop (w * length rs) t

unfoldable pub symbology_after : Res (Block × List ℕ) → List ℕ → List ℕ → List ℕ
symbology_after (refuse k) s l = s
symbology_after (ok z j) s l = cond (roomy z.0 (length s) (length l)) (columns 6 (sixes z.0) s) s

unfoldable pub layout_after : Res (Block × List ℕ) → List ℕ → List ℕ → List ℕ
layout_after (refuse k) s l = l
layout_after (ok z j) s l = cond (roomy z.0 (length s) (length l)) (over (nines z.0) 9 l) l

-- the three outputs of reading a block: version, block, sheet, symbology table, layout table
unfoldable pub block_answer : ℕ → List ℕ → List ℕ → List ℕ → List ℕ → Result Fields ReadError
block_answer v b t s l = answer_of (lengths v) (block_of v t b) (length s) (length l)

unfoldable pub block_symbology : ℕ → List ℕ → List ℕ → List ℕ → List ℕ → List ℕ
block_symbology v b t s l = symbology_after (block_of v t b) s l

unfoldable pub block_layout : ℕ → List ℕ → List ℕ → List ℕ → List ℕ → List ℕ
block_layout v b t s l = layout_after (block_of v t b) s l

pub record Promise (v : ℕ) (b t s l : List ℕ) (r : Result Fields ReadError) (s' l' : List ℕ) : Type 0 where
  pub answer : r ≡ block_answer v b t s l
  pub symbology : s' ≡ block_symbology v b t s l
  pub layout : l' ≡ block_layout v b t s l

-- ---- the numbers of document 01

-- 3 for short tables, 0 for an accepted block
abbrev pub block_number : Result Fields ReadError → ℕ
block_number (Ok f) = 0
block_number (Err (ReadError.Refused e)) = e.number
block_number (Err (ReadError.Short s l)) = 3
