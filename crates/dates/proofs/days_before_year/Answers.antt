-- The days before a year, in one line.
-- Assumes nothing.
use native.Mathlib.Omega.{arith}
use Rattle.dates.specs.DayLaws.{multiples, year-before}
use Rattle.dates.proofs.days_before_year.Goals as goal

pub returns : goal.returns
unfolding multiples
returns c = let e = year-before c.args.y in omega arith
