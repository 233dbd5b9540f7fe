-- A day of the month, which has as many as is known. Assumes nothing.
use native.Mathlib.Omega.{arith}
use Prim.Native.Nat.{◌%◌}
use mathlib.Core.Path.{ap}
use lib.Dec.{leb}
use borrow.Author.Tests.{le-leb, lt-leb}
use Rattle.dates.specs.Months.{is_date_in}
use Rattle.dates.proofs.is_date_in.Goals as goal

pub returns-then-d-ge1 : goal.returns-then-d-ge1
unfolding is_date_in
returns-then-d-ge1 c = (
  rw (le-leb 1 (c.args.n % 100) (omega arith)) (ap (leb (c.args.n % 100)) c.days_known-days.ensures.0),
  c.days_known-days.ensures.1,
)

pub returns-else-d-ge1 : goal.returns-else-d-ge1
unfolding is_date_in
returns-else-d-ge1 c = (rw (lt-leb 1 (c.args.n % 100) (omega arith)), c.days_known-days.ensures.1)
