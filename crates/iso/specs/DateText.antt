-- A day as people write it, in ASCII. Assumes nothing.
use Rattle.std.specs.Prelude.{ℕ, Option, Some, None, ◌+◌, ◌/◌, ◌%◌, ◌≡◌, List, [], ◌∷◌, replicate}
use Rattle.std.proofs.Common.{sym, ◌∙◌}
use Rattle.dates.specs.Day.{date_on}

-- the digit of n that counts w
abbrev pub digit_of : ℕ → ℕ → ℕ
digit_of n w = 48 + n / w % 10

-- four digits of the year, two of the month, two of the day, with a '-' between
abbrev pub date_text : ℕ → List ℕ
date_text n =
    digit_of n 10000000 ∷ digit_of n 1000000 ∷ digit_of n 100000 ∷ digit_of n 10000
    ∷ 45 ∷ digit_of n 1000 ∷ digit_of n 100
    ∷ 45 ∷ digit_of n 10 ∷ digit_of n 1 ∷ []

-- a day by its date, where it has one
abbrev pub day_text : Option ℕ → List ℕ
day_text (Some n) = date_text n
day_text None = replicate 10 63

-- ONE ANSWER: two that meet the promise are equal
pub one-text : (k : ℕ) (x y : List ℕ) → x ≡ day_text (date_on k) → y ≡ day_text (date_on k) → x ≡ y
one-text k x y f g = f ∙ sym g
