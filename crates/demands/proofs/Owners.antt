-- Whose interval it is, in the table that a call leaves. Assumes nothing.
use Rattle.block_format.specs.declared.Fields.{Fields}
use Rattle.block_format.specs.declared.ReadError.{ReadError}
use Rattle.std.specs.Prelude.{ℕ, ◌/◌, ◌≤◌, ◌<◌, ◌≡◌, List, length, Result}
use Rattle.codec.specs.Codec.{ok}
use Rattle.table.specs.Columns.{cell}
use Rattle.block_format.specs.Block.{Block, block_of}
use Rattle.block_format.specs.Read.{sixes, nines, Promise}
use Rattle.demands.specs.InColumns.{in_columns}
use Rattle.demands.specs.OwnerLaws.{Whose}
use Rattle.demands.proofs.OwnerLaws.{rows_owned, whose_same}

-- of every row of an accepted block of any version, in a table that holds its rows: a mapping's intervals are the rows after it, as many as
-- its x counts; an interval's owner is such a mapping before it; every other row is its own
pub owners : (version : ℕ) (sheet b s l s' l' : List ℕ) (r : Result Fields ReadError) (z : Block × List ℕ) (k : ℕ) → Promise version b sheet s l r s' l' → block_of version sheet b ≡ ok z k
    → length (sixes z.0) ≤ length s / 6 → length (nines z.0) ≤ length l / 9
    → (i : ℕ) → i < length (sixes z.0) → Whose (cell 6 s') (length (sixes z.0)) i
owners version sheet b s l s' l' r z k p e hs hl i h = whose_same (in_columns version sheet b s l s' l' r z k p e hs hl).rows i h (rows_owned z.0.symbology i h)
