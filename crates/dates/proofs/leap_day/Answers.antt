-- A leap year has a day more.
-- Assumes nothing.
use Rattle.codec.specs.CaseLaws.{by_bool}
use Rattle.dates.specs.Date.{is_leap}
use Rattle.dates.specs.DayLaws.{leap_day}
use Rattle.dates.proofs.leap_day.Goals as goal

pub returns : goal.returns
unfolding leap_day
returns c = by_bool (is_leap c.args.y) (λ e. rw (c.from.ensures, c.leap.ensures, e)) (λ e. rw (c.from.ensures, c.leap.ensures, e))
