-- The writer's promise leaves no freedom. Assumes nothing.
use Rattle.std.specs.Prelude.{ℕ, ◌≡◌, List}
use Rattle.std.proofs.Common.{sym, ◌∙◌}
use Rattle.writer.specs.Write.{Written, Writes}

pub single : (sheet : List ℕ) (width version : ℕ) (rows text out o o' : List ℕ) (r r' : Written)
    → Writes sheet width version rows text out o r → Writes sheet width version rows text out o' r' → (r ≡ r') × (o ≡ o')
single sheet width version rows text out o o' r r' a b = (a.is ∙ sym b.is, a.leaves ∙ sym b.leaves)
