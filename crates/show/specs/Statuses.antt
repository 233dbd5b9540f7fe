-- What show ends with, by number. Assumes nothing.
use Rattle.std.specs.Prelude.{ℕ}
use Rattle.show.specs.declared.tell.Status.{Status}
use Rattle.show.specs.declared.tell.Status.TheVariants.{Accepted, Refused, Unusable}

-- 0 accepted or tidy, 1 refused, untidy or cut short, 2 what cannot be used
abbrev pub number : Status → ℕ
number Accepted = 0
number Refused = 1
number Unusable = 2
