-- What the C function that writes a whole start gives for each case of an answer: the number of documents 01 and 02, and the values in `out`.
-- Assumes nothing.
use Rattle.std.specs.Prelude.{ℕ, ◌≡◌, List, length}
use Rattle.writer.specs.Write.{out_after, written_number}
use Rattle.c_layout.specs.Numbers.{written_out}
use Rattle.block_writer.specs.Write.{write_block, start_bytes}

-- THE PROMISE of dbn_write_block: fields fs, n rows of the columns t, layout rows and their text written as a start of version v into the output u
pub record WriteBlockC (v : ℕ) (fs t : List ℕ) (n : ℕ) (rows text sheet u o : List ℕ) (r : ℕ) (u' o' : List ℕ) : Type 0 where
  pub number : r ≡ written_number (write_block sheet v fs t n rows text (length u))
  pub out : o' ≡ written_out (write_block sheet v fs t n rows text (length u)) o
  pub output : u' ≡ out_after (write_block sheet v fs t n rows text (length u)) (start_bytes sheet v fs t n rows text) u
