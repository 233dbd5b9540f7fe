-- Two answers that meet the same public promise are equal. Assumes nothing.
use Rattle.std.specs.Prelude.{ℕ, ◌≡◌, Bool, Result, Err}
use Rattle.std.proofs.Common.{sym, ◌∙◌}
use Rattle.refusal.specs.Places.{has_place}
use Rattle.refusal.specs.declared.Refusal.{Refusal}

pub has-place : (n : ℕ) (r r' : Bool) → r ≡ has_place n → r' ≡ has_place n → r ≡ r'
has-place n r r' e f = e ∙ sym f

pub one-refuse : {T : Type 0} (number place : ℕ) (r r' : Result T Refusal)
    → r ≡ Err (record { number = number; place = place }) → r' ≡ Err (record { number = number; place = place }) → r ≡ r'
one-refuse number place r r' e f = e ∙ sym f
