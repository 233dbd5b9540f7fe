-- The public promise allows one answer: two results that meet it are equal.
-- Assumes nothing.
use Rattle.std.specs.Prelude.{◌≡◌, Bool, List, ℕ}
use Rattle.std.proofs.Common.{sym, ◌∙◌}
use Rattle.plain_text.specs.Plain.{plain}

pub is-plain-one : (s : List ℕ) (a b : Bool) → a ≡ plain s → b ≡ plain s → a ≡ b
is-plain-one s a b p q = p ∙ sym q
