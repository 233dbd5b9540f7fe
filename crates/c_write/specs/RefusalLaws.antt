-- Which numbers dbn_write_block gives. Assumes nothing.
use Rattle.std.specs.Prelude.{ℕ, ◌≡◌, refl, List, ◌∷◌, length, Ok, Err}
use Rattle.std.proofs.Common.{sym, subst}
use Rattle.refusal.specs.declared.Refusal.{Refusal}
use Rattle.codec.specs.Refusals.{In}
use Rattle.codec.proofs.RefusalLaws.{in_more}
use Rattle.writer.specs.Write.{Written, written_number}
use Rattle.block_writer.specs.Write.{write_block}
use Rattle.block_writer.proofs.RefusalLaws.{start_numbers, answer-refuses}
use Rattle.c_write.specs.Numbers.{WriteBlockC}

-- 0 or the writer's refusal
pub write_block-number : (v : ℕ) (fs t : List ℕ) (n : ℕ) (rows text sheet u o : List ℕ) (r : ℕ) (u' o' : List ℕ) → WriteBlockC v fs t n rows text sheet u o r u' o' → In (0 ∷ start_numbers) r
write_block-number v fs t n rows text sheet u o r u' o' p =
    subst (In (0 ∷ start_numbers)) (sym p.number) (go (write_block sheet v fs t n rows text (length u)) (λ k e. answer-refuses sheet v fs t n rows text (length u) e))
  where
    go : (a : Written) → ((k : Refusal) → a ≡ Err k → In start_numbers k.number) → In (0 ∷ start_numbers) (written_number a)
    go (Ok n) h = refl
    go (Err k) h = in_more start_numbers (0 ∷ start_numbers) refl k.number (h k refl)
