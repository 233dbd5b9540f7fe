-- Examples, counted by hand.
-- Assumes nothing.
use Rattle.std.specs.Prelude.{◌≡◌, refl, [], ◌∷◌, get_or, replicate}
use Rattle.count.specs.Count.{History, summed, accepted, refused, cuts, rows, total, refused_below, raised, counted, counted_all, counted_end}
use Rattle.count.specs.declared.Outcome.TheVariants.{Accepted, Refused, Cut}

-- two accepted with 3 rows and 4, two refused by 50 and one by 20, the last cut
abbrev night : History
night = Accepted 3 ∷ Refused 50 ∷ Refused 20 ∷ Accepted 4 ∷ Refused 50 ∷ Cut ∷ []

pub night-counts : (accepted night ≡ 2) × (refused 20 night ≡ 1) × (refused 50 night ≡ 2) × (refused 51 night ≡ 0) × (cuts night ≡ 1) × (rows night ≡ 7) × (total night ≡ 6)
unfolding summed
night-counts = (refl, refl, refl, refl, refl, refl, refl)

-- three were refused by numbers below 51, one by those below 50
pub night-refused : (refused_below 51 night ≡ 3) × (refused_below 50 night ≡ 1)
unfolding refused_below summed
night-refused = (refl, refl)

-- the count of refusals by 50, kept from nothing on
pub night-kept : get_or (counted_all night (replicate 260 0)) 50 0 ≡ 2
unfolding counted_all counted raised
night-kept = refl

-- a count that is full stays
pub full_stays : raised 1 3 (7 ∷ 18446744073709551613 ∷ []) ≡ 7 ∷ 18446744073709551615 ∷ []
unfolding raised
full_stays = refl

-- bytes held at the end are one cut input, none are none
pub end-cut : (get_or (counted_end 5 (replicate 260 0)) 257 0 ≡ 1) × (get_or (counted_end 0 (replicate 260 0)) 257 0 ≡ 0)
unfolding counted raised
end-cut = (refl, refl)
