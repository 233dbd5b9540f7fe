-- A digit is one byte, the low one.
-- Assumes nothing.
use Prim.Native.Nat.{ℕ, ◌+◌, ◌<◌}
use native.Mathlib.Omega.{arith}
use mathlib.Core.Path.{◌≡◌, ap}
use mathlib.Core.List.{[], ◌∷◌}
use Rattle.codec.specs.Codec.{little}
use Rattle.put.specs.OutputLaws.{stored_wrote, stored_is}
use Rattle.report.proofs.put_digit.Goals as goal

little_digit : (d : ℕ) → d < 10 → little 1 (48 + d) ≡ (48 + d) ∷ []
little_digit d h = ap (λ (x : ℕ). x ∷ []) (omega arith)

pub returns : goal.returns
returns c = stored_wrote c.requires.1 (stored_is c.put_little.ensures (little_digit _ c.requires.0))
