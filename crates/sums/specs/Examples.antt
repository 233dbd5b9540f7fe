-- Examples, counted by hand.
-- Assumes nothing.
use Rattle.std.specs.Prelude.{◌≡◌, refl, [], ◌∷◌}
use Rattle.sums.specs.Sums.{words, sum, running, check_a, check_b, sums_of}

-- the words 1, 2, 3: their sum is 6, the running sums are 1, 3, 6
pub one-two-three : sums_of (1 ∷ 0 ∷ 2 ∷ 0 ∷ 3 ∷ 0 ∷ []) ≡ record { a = 6; b = 10 }
unfolding words sum running check_a check_b
one-two-three = refl

-- the words 65534 and 3: their sum is 65537, the running sums are 65534 and 65537
pub both_wrap : sums_of (254 ∷ 255 ∷ 3 ∷ 0 ∷ []) ≡ record { a = 2; b = 1 }
unfolding words sum running check_a check_b
both_wrap = refl

-- an odd byte at the end: the words 513 and 3
pub odd_byte : sums_of (1 ∷ 2 ∷ 3 ∷ []) ≡ record { a = 516; b = 1029 }
unfolding words sum running check_a check_b
odd_byte = refl
