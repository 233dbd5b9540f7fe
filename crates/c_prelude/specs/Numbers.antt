-- What dbn_prelude writes to `out` for each case of a stage.
-- Assumes nothing.
use Rattle.std.specs.Prelude.{ℕ, List, [], ◌∷◌, set, Result, Ok, Err}
use Rattle.refusal.specs.declared.Refusal.{Refusal}
use Rattle.prelude.specs.declared.Stage.{Stage}
use Rattle.prelude.specs.declared.Stage.TheVariants.{Needs, Whole}

-- what is missing; version and block length; the place of a refusal, at 3, the rest as it was
abbrev pub prelude_out : Result Stage Refusal → List ℕ → List ℕ
prelude_out (Ok (Needs n)) o = n ∷ 0 ∷ 0 ∷ 0 ∷ []
prelude_out (Ok (Whole v n)) o = 0 ∷ v ∷ n ∷ 0 ∷ []
prelude_out (Err e) o = set o 3 e.place
