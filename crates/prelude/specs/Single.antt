-- ONE ANSWER: two outcomes that meet the promise of `prelude`, or that of `is_version`, are equal.
-- Assumes nothing.
use Rattle.std.specs.Prelude.{ℕ, ◌≡◌, Bool, List, Result}
use Rattle.std.proofs.Common.{sym, ◌∙◌}
use Rattle.refusal.specs.declared.Refusal.{Refusal}
use Rattle.prelude.specs.Prelude.{prelude_of, is_version}
use Rattle.prelude.specs.declared.Stage.{Stage}

pub one-prelude : (s : List ℕ) (x y : Result Stage Refusal) → x ≡ prelude_of s → y ≡ prelude_of s → x ≡ y
one-prelude s x y f g = f ∙ sym g

pub one-version : (v : ℕ) (x y : Bool) → x ≡ is_version v → y ≡ is_version v → x ≡ y
one-version v x y f g = f ∙ sym g
