-- The morning count, as document 02's request 12 has it. A history is what came of each input that was begun, in order; the counts are
-- functions of it.
-- Assumes nothing.
use Rattle.std.specs.Prelude.{ℕ, zero, suc, ◌+◌, ◌<◌, min, cond, List, [], ◌∷◌, length, get_or, set, eqb}
use Rattle.count.specs.declared.Outcome.{Outcome}
use Rattle.count.specs.declared.Outcome.TheVariants.{Accepted, Refused, Cut}

abbrev pub History : Type 0
History = List Outcome

-- ---- the counts of a history

-- what each outcome adds, in all
unfoldable pub summed : (Outcome → ℕ) → History → ℕ
summed f [] = 0
summed f (x ∷ h) = f x + summed f h

-- an accepted input
abbrev pub is_accepted : Outcome → ℕ
is_accepted (Accepted r) = 1
is_accepted (Refused c) = 0
is_accepted Cut = 0

-- one that is refused by n
abbrev pub is_refused : ℕ → Outcome → ℕ
is_refused n (Accepted r) = 0
is_refused n (Refused c) = cond (eqb c n) 1 0
is_refused n Cut = 0

-- one that is cut
abbrev pub is_cut : Outcome → ℕ
is_cut (Accepted r) = 0
is_cut (Refused c) = 0
is_cut Cut = 1

-- the symbology rows of an accepted one
abbrev pub rows_in : Outcome → ℕ
rows_in (Accepted r) = r
rows_in (Refused c) = 0
rows_in Cut = 0

-- how many were accepted
abbrev pub accepted : History → ℕ
accepted = summed is_accepted

-- how many were refused by n
abbrev pub refused : ℕ → History → ℕ
refused n = summed (is_refused n)

-- how many were cut
abbrev pub cuts : History → ℕ
cuts = summed is_cut

-- the symbology rows in accepted ones
abbrev pub rows : History → ℕ
rows = summed rows_in

-- THE TOTAL: the inputs begun
abbrev pub total : History → ℕ
total = length

-- how many were refused by the numbers below m
unfoldable pub refused_below : ℕ → History → ℕ
refused_below zero h = 0
refused_below (suc m) h = refused_below m h + refused m h

-- an outcome's refusal number, if it has one, is below m
abbrev pub NumberBelow : ℕ → Outcome → Type 0
NumberBelow m (Accepted r) = Unit
NumberBelow m (Refused c) = c < m
NumberBelow m Cut = Unit

-- every refusal number of a history is below m
unfoldable pub Below : ℕ → History → Type 0
Below m [] = Unit
Below m (x ∷ h) = NumberBelow m x × Below m h

-- ---- the counts as they are kept: 256 refusal numbers, then accepted, cut, rows and total

-- a count goes no higher than 2^64 - 1
abbrev pub clipped : ℕ → ℕ
clipped n = min n 18446744073709551615

-- the count at a place raised by n
unfoldable pub raised : ℕ → ℕ → List ℕ → List ℕ
raised at n c = set c at (clipped (get_or c at 0 + n))

-- ONE OUTCOME MORE
unfoldable pub counted : Outcome → List ℕ → List ℕ
counted (Accepted r) c = raised 258 r (raised 256 1 (raised 259 1 c))
counted (Refused n) c = raised n 1 (raised 259 1 c)
counted Cut c = raised 257 1 (raised 259 1 c)

-- a history counted, in its order
unfoldable pub counted_all : History → List ℕ → List ℕ
counted_all [] c = c
counted_all (x ∷ h) c = counted_all h (counted x c)

-- the bytes end with k held: an input that was begun is cut
abbrev pub counted_end : ℕ → List ℕ → List ℕ
counted_end k c = cond (eqb k 0) c (counted Cut c)
