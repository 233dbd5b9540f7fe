-- The numbers of days in an interval's row lose nothing: they have the dates of the wire. Assumes nothing.
use Rattle.std.specs.Prelude.{ℕ, ◌≡◌, Bool, List, get_or}
use Rattle.codec.specs.Codec.{named, ◌then◌, checked, num}
use Rattle.dates.specs.Date.{is_date}
use Rattle.dates.specs.Day.{day_of, date_of_day}
use Rattle.dates.specs.DayLaws.{date-back}
use Rattle.symbology_format.specs.Symbology.{Interval, date, interval}
use Rattle.symbology_format.specs.SymbologyRows.{interval_row}

pub interval-dates : (utf8 nul_padded : List ℕ → Bool) (width : ℕ) (i : Interval) → (interval utf8 nul_padded is_date width).codec.legal i
    → (date_of_day (day_of i.from) ≡ i.from) × (date_of_day (day_of i.to) ≡ i.to)
unfolding interval named ◌then◌ date checked num
interval-dates utf8 nul_padded width i lg = (date-back i.from lg.0.1, date-back i.to lg.1.0.1)

-- its row has the numbers of both days, and these have the dates of the wire
pub row-dates : (utf8 nul_padded : List ℕ → Bool) (width owner : ℕ) (i : Interval) → (interval utf8 nul_padded is_date width).codec.legal i
    → (date_of_day (get_or (interval_row owner i) 3 0) ≡ i.from) × (date_of_day (get_or (interval_row owner i) 4 0) ≡ i.to)
row-dates utf8 nul_padded width owner = interval-dates utf8 nul_padded width
