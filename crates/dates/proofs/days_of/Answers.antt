-- No month past the year 9999 has days.
-- Assumes nothing.
use borrow.Author.Tests.{le-leb, lt-leb}
use Rattle.dates.specs.Months.{days_of}
use Rattle.dates.proofs.days_of.Goals as goal

pub returns-then-y-gt9999 : goal.returns-then-y-gt9999
unfolding days_of
returns-then-y-gt9999 c = rw (lt-leb c.args.y 9999 c.if-y-gt9999.true)

pub returns : goal.returns
unfolding days_of
returns c = rw (le-leb c.args.y 9999 c.if-y-gt9999.false) c.days_in.ensures
