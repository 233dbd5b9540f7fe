-- The days before the month, and those before the day in it. Assumes nothing.
use native.Mathlib.Omega.{arith}
use Rattle.dates.specs.Months.{day_in}
use Rattle.dates.proofs.day_number_in.Goals as goal

pub overflow_cast-first : goal.overflow_cast-first
overflow_cast-first c = omega (arith, c.word_in-word.ensures.2)

pub returns-then-d-lt1 : goal.returns-then-d-lt1
unfolding day_in
returns-then-d-lt1 c = (omega (arith, c.word_in-word.ensures.0), c.word_in-word.ensures.1)

pub overflow_add-result : goal.overflow_add-result
overflow_add-result c = omega (arith, c.word_in-word.ensures.2)

pub returns : goal.returns
unfolding day_in
returns c = (omega (arith, c.word_in-word.ensures.0), c.word_in-word.ensures.1)
