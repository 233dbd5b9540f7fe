-- When the answer of a function that may give up is the number. Assumes nothing.
use Rattle.std.specs.Prelude.{ℕ, ◌≡◌, List, [], length}
use Rattle.std.proofs.Common.{arith}
use Rattle.item_rules.specs.Tried.{Tried, answered, gave_up}

-- what follows for v follows for the answer
pub tried_as : {owners : List ℕ} {v w r : ℕ} → (r ≡ v → r ≡ w) → Tried owners v r → Tried owners w r
tried_as f (answered e) = answered (f e)
tried_as f (gave_up e n) = gave_up e n

-- the same owners
pub tried-by : {owners owners' : List ℕ} {v r : ℕ} → owners ≡ owners' → Tried owners v r → Tried owners' v r
tried-by q h = rw (← q) h

-- whatever owners were lent
pub tried-none : {owners : List ℕ} {v r : ℕ} → Tried owners v r → Tried [] v r
tried-none (answered e) = answered e
tried-none (gave_up e _) = gave_up e (λ h. let z : ⊥ = omega arith in z)

module _ {owners : List ℕ} {v r : ℕ} where
  -- an answer other than 65536 is v
  pub tried-is : Tried owners v r → (r ≡ 65536 → ⊥) → r ≡ v
  tried-is (answered e) n = e
  tried-is (gave_up e _) n = absurd (n e)

  -- with 65,536 owners every answer is
  pub tried-all : Tried owners v r → length owners ≡ 65536 → r ≡ v
  tried-all (answered e) h = e
  tried-all (gave_up _ n) h = absurd (n h)

  -- and so is 0
  pub tried_0 : Tried owners v r → r ≡ 0 → r ≡ v
  tried_0 h z = tried-is h (λ e. let y : ⊥ = omega arith in y)
