-- What writing a block answers and what it leaves of the output: 11, 110, 111, 90 to 95, then the reader's number for the block that is about to be
-- written, then 112. Each is about no byte: its place is 0.
-- Assumes nothing.
use Rattle.std.specs.Prelude.{ℕ, Bool, true, ◌&&◌, cond, ◌≡◌, List, ◌++◌, length, leb, eqb, Ok, Err}
use Rattle.codec.specs.Codec.{refusal, fault_of}
use Rattle.codec.specs.Faults.{unless, first}
use Rattle.prelude.specs.Prelude.{is_version}
use Rattle.rows_check.specs.Check.{fault}
use Rattle.writer.specs.Write.{Written, out_after}
use Rattle.block_format.specs.Block.{block_of}
use Rattle.columns_check.specs.Check.{well_formed, narrow}
use Rattle.header_bytes.specs.Numbers.{width}
use Rattle.block_writer.specs.Fields.{fields_fit, fields_narrow}
use Rattle.block_writer.specs.Tree.{block_bytes, prelude_bytes}

-- 110: fields, texts or symbology rows
unfoldable pub formed : ℕ → List ℕ → List ℕ → ℕ → List ℕ → Bool
formed version fs t n text = fields_fit version fs text && well_formed t n text

-- 111: a symbol or the dataset is wider than its field, or version 1's width is not 22
unfoldable pub slim : ℕ → List ℕ → List ℕ → ℕ → Bool
slim version fs t n = fields_narrow version fs && narrow (width fs) t n

module _ (sheet : List ℕ) (version : ℕ) (fs t : List ℕ) (n : ℕ) (rows text : List ℕ) where
  -- the bytes that are about to be written: prelude and block
  unfoldable pub start_bytes : List ℕ
  start_bytes = prelude_bytes version (length (block_bytes sheet version fs t n rows text)) ++ block_bytes sheet version fs t n rows text

  -- the number that refuses to write, 0 for none: the reader's own definition decides on the bytes of the block
  unfoldable pub write_fault : ℕ
  write_fault =
      first (unless (is_version version) 11) (first (unless (formed version fs t n text) 110) (first (unless (slim version fs t n) 111)
      (first (fault true rows text) (fault_of (block_of version sheet (block_bytes sheet version fs t n rows text))))))

  -- by how long the output is
  unfoldable pub write_block : ℕ → Written
  write_block room =
      cond (eqb 0 write_fault) (cond (leb (length start_bytes) room) (Ok (length start_bytes)) (Err (refusal 112 0))) (Err (refusal write_fault 0))

  -- THE PROMISE of write_block
  pub record WritesBlock (out out' : List ℕ) (r : Written) : Type 0 where
    pub is : r ≡ write_block (length out)
    pub leaves : out' ≡ out_after (write_block (length out)) start_bytes out
