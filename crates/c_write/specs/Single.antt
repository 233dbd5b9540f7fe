-- The promise of dbn_write_block leaves no freedom. Assumes nothing.
use Rattle.std.specs.Prelude.{ℕ, ◌≡◌, List}
use Rattle.std.proofs.Common.{sym, ◌∙◌}
use Rattle.c_write.specs.Numbers.{WriteBlockC}

pub single : (v : ℕ) (fs t : List ℕ) (n : ℕ) (rows text sheet u o : List ℕ) (r s : ℕ) (a b c d : List ℕ)
    → WriteBlockC v fs t n rows text sheet u o r a c → WriteBlockC v fs t n rows text sheet u o s b d → (r ≡ s) × ((a ≡ b) × (c ≡ d))
single v fs t n rows text sheet u o r s a b c d p q = (p.number ∙ sym q.number, (p.output ∙ sym q.output, p.out ∙ sym q.out))
