-- The symbology table that a call leaves, cell by cell. Assumes nothing.
use Rattle.block_format.specs.declared.Fields.{Fields}
use Rattle.block_format.specs.declared.ReadError.{ReadError}
use Rattle.std.specs.Prelude.{ℕ, ◌*◌, ◌/◌, ◌≤◌, ◌<◌, ◌≡◌, List, [], length, get_or, Result}
use Rattle.std.proofs.Common.{arith, ap, ◌∙◌}
use Rattle.codec.specs.Codec.{ok}
use Rattle.table.specs.Columns.{cell}
use Rattle.table.proofs.ColumnLaws.{columns-length, cell_row, cell-kept, after_kept}
use Rattle.block_format.specs.Block.{Block, block_of}
use Rattle.block_format.specs.Read.{sixes, nines, Promise}
use Rattle.block_format.proofs.ReadLaws.{held}

-- the table s' has the rows rs, and else what s had
pub record InColumns (rs : List (List ℕ)) (s s' : List ℕ) : Type 0 where
  -- number c of row r stands in column c
  pub rows : (r c : ℕ) → r < length rs → c < 6 → cell 6 s' r c ≡ get_or (get_or rs r []) c 0
  -- cells past the last row of each column, and any after the six columns, are as they were
  pub below : (r c : ℕ) → length rs ≤ r → r < length s / 6 → c < 6 → cell 6 s' r c ≡ cell 6 s r c
  pub after : (i : ℕ) → length s / 6 * 6 ≤ i → get_or s' i 0 ≡ get_or s i 0
  pub long : length s' ≡ length s

-- an accepted block of any version, read into tables that hold its rows
pub in_columns : (version : ℕ) (sheet b s l s' l' : List ℕ) (r : Result Fields ReadError) (z : Block × List ℕ) (k : ℕ) → Promise version b sheet s l r s' l' → block_of version sheet b ≡ ok z k
    → length (sixes z.0) ≤ length s / 6 → length (nines z.0) ≤ length l / 9 → InColumns (sixes z.0) s s'
in_columns version sheet b s l s' l' r z k p e hs hl =
    let rs = sixes z.0 in
    let is = (held z k p e hs hl).symbology in
    let some : 0 < 6 = omega arith in
    record {
      rows = λ r c i j. ap (λ (t : List ℕ). cell 6 t r c) is ∙ cell_row 6 some rs s hs r c i j;
      below = λ r c i m j. ap (λ (t : List ℕ). cell 6 t r c) is ∙ cell-kept 6 some rs s hs r c i m j;
      after = λ i m. ap (λ (t : List ℕ). get_or t i 0) is ∙ after_kept 6 some rs s hs i m;
      long = ap length is ∙ columns-length 6 some rs s hs;
    }
