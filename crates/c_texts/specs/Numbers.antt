-- What the C functions on a text and a number give, and where a refusal is told.
-- Assumes nothing.
use Rattle.std.specs.Prelude.{ℕ, Option, Some, None, Bool, true, false, cond, List, set}
use Rattle.refusal.specs.declared.Refusal.{Refusal}
use Rattle.refusal.specs.Places.{has_place}

-- yes is 1, no is 0
abbrev pub bit : Bool → ℕ
bit true = 1
bit false = 0

-- what the calendar has is 1, and stands in `out`; what it lacks is 0, and leaves `out` as it was
abbrev pub calendar_number : Option ℕ → ℕ
calendar_number (Some n) = 1
calendar_number None = 0

abbrev pub calendar_out : Option ℕ → List ℕ → List ℕ
calendar_out (Some n) o = set o 0 n
calendar_out None o = o

-- the place of a refusal stands at 13 where its number has one; any other leaves `out` as it was
abbrev pub place_out : Refusal → List ℕ → List ℕ
place_out e o = cond (has_place e.number) (set o 13 e.place) o
