-- The promise of `write_block` leaves no freedom. Assumes nothing.
use Rattle.std.specs.Prelude.{◌≡◌, List, ℕ}
use Rattle.std.proofs.Common.{sym, ◌∙◌}
use Rattle.block_writer.specs.Write.{WritesBlock}
use Rattle.writer.specs.Write.{Written}

pub single : (sheet : List ℕ) (version : ℕ) (fs t : List ℕ) (n : ℕ) (rows text out o o' : List ℕ) (r r' : Written)
    → WritesBlock sheet version fs t n rows text out o r → WritesBlock sheet version fs t n rows text out o' r' → (r ≡ r') × (o ≡ o')
single sheet version fs t n rows text out o o' r r' a b = (a.is ∙ sym b.is, a.leaves ∙ sym b.leaves)
