-- Two answers that meet a public promise are equal. Assumes nothing.
use Rattle.std.specs.Prelude.{ℕ, ◌-◌, ◌≡◌, Bool, List}
use Rattle.std.proofs.Common.{sym, ◌∙◌}
use Rattle.plain_tiling.specs.Plain.{taken, paint, reach}

pub is-taken-one : (ms : List ℕ) (a z : ℕ) {r r' : Bool} → r ≡ taken ms a (z - a) → r' ≡ taken ms a (z - a) → r ≡ r'
is-taken-one ms a z e f = e ∙ sym f

pub give_one : (ms : List ℕ) (a z owner : ℕ) {x x' : List ℕ} → x ≡ paint ms a (z - a) owner → x' ≡ paint ms a (z - a) owner → x ≡ x'
give_one ms a z owner e f = e ∙ sym f

pub walk-one : (ms : List ℕ) (a z : ℕ) {r r' : ℕ} → r ≡ reach ms a (z - a) → r' ≡ reach ms a (z - a) → r ≡ r'
walk-one ms a z e f = e ∙ sym f
