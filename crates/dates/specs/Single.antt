-- ONE ANSWER: each public promise is an equation for each output, so two outcomes that meet it are equal.
-- Assumes nothing.
use Rattle.std.specs.Prelude.{Option, ◌≡◌, Bool, List, ℕ, ◌/◌}
use Rattle.std.proofs.Common.{sym, ◌∙◌}
use Rattle.dates.specs.Day.{day_on, date_on}
use Rattle.dates.specs.Months.{is_date_in, day_in, months_after, months_tested}

one : {A : Type 0} {x y z : A} → x ≡ z → y ≡ z → x ≡ y
one f g = f ∙ sym g

pub day-of-one : (n : ℕ) (a b : Option ℕ) → a ≡ day_on n → b ≡ day_on n → a ≡ b
day-of-one n a b f g = one f g

pub date-of-day-one : (k : ℕ) (a b : Option ℕ) → a ≡ date_on k → b ≡ date_on k → a ≡ b
date-of-day-one k a b f g = one f g

-- an answer, and the months that are kept
both_one : {A : Type 0} {x y z : A} {u v w : List ℕ} → (x ≡ z) × (u ≡ w) → (y ≡ z) × (v ≡ w) → (x ≡ y) × (u ≡ v)
both_one f g = (one f.0 g.0, one f.1 g.1)

pub is-date_in_one : (ws : List ℕ) (n : ℕ) {a b : Bool} {u v : List ℕ}
    → (a ≡ is_date_in ws n) × (u ≡ months_tested ws (n / 100)) → (b ≡ is_date_in ws n) × (v ≡ months_tested ws (n / 100)) → (a ≡ b) × (u ≡ v)
is-date_in_one ws n f g = both_one f g

pub day-number_in_one : (ws : List ℕ) (n : ℕ) {a b : ℕ} {u v : List ℕ}
    → (a ≡ day_in ws n) × (u ≡ months_after ws (n / 100)) → (b ≡ day_in ws n) × (v ≡ months_after ws (n / 100)) → (a ≡ b) × (u ≡ v)
day-number_in_one ws n f g = both_one f g
