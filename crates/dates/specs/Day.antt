-- The number of a day, and the date of a number: 1 January of year 0 is 0, and each day counts those before it.
-- Assumes nothing.
use Rattle.std.specs.Prelude.{Option, Some, None, Bool, cond, ℕ, zero, suc, ◌+◌, ◌-◌, ◌*◌, ◌/◌, ◌%◌, leb, ltb}
use Rattle.dates.specs.Date.{days_in, is_date}

-- the days of the years, or of the months, before the one of this number
unfoldable pub days_before : (ℕ → ℕ) → ℕ → ℕ
days_before days zero = 0
days_before days (suc n) = days_before days n + days n

-- a year has the days of its months, which are those before a thirteenth
unfoldable pub days_of_year : ℕ → ℕ
days_of_year y = days_before (days_in y) 13

-- the days before month m of the year y
unfoldable pub days_to : ℕ → ℕ → ℕ
days_to y m = days_before days_of_year y + days_before (days_in y) m

-- the days before day d of that month
unfoldable pub day_number : ℕ → ℕ → ℕ → ℕ
day_number y m d = days_to y m + (d - 1)

-- the number of the day that is written year x 10000 + month x 100 + day
unfoldable pub day_of : ℕ → ℕ
day_of n = day_number (n / 10000) (n / 100 % 100) (n % 100)

-- a day of the years 0 to 9999
unfoldable pub is_day_number : ℕ → Bool
is_day_number k = ltb k (days_before days_of_year 10000)

-- the last of the years, or of the months, 0 to `most` with at most k days before it
unfoldable pub last_by : (ℕ → ℕ) → ℕ → ℕ → ℕ
last_by days zero k = 0
last_by days (suc most) k = cond (leb (days_before days (suc most)) k) (suc most) (last_by days most k)

unfoldable pub year_of : ℕ → ℕ
year_of k = last_by days_of_year 9999 k

-- the month of day k of the year y, which has k days before it in that year
unfoldable pub month_of : ℕ → ℕ → ℕ
month_of y k = last_by (days_in y) 12 k

-- that day, as month x 100 + day
unfoldable pub in_year : ℕ → ℕ → ℕ
in_year y k = month_of y k * 100 + (k - days_before (days_in y) (month_of y k)) + 1

-- the date of day k
unfoldable pub date_of_day : ℕ → ℕ
date_of_day k = year_of k * 10000 + in_year (year_of k) (k - days_before days_of_year (year_of k))

-- the date after a date: the next day of the month, or the first of the next month, or 1 January of the next year
unfoldable pub date_after : ℕ → ℕ
date_after n =
    cond (ltb (n % 100) (days_in (n / 10000) (n / 100 % 100))) (n + 1)
    (cond (ltb (n / 100 % 100) 12) (n / 100 * 100 + 101) (n / 10000 * 10000 + 10101))

-- what the date check gives: the day's number, where there is such a day
unfoldable pub day_on : ℕ → Option ℕ
day_on n = cond (is_date n) (Some (day_of n)) None

-- and back: the date, where there is one of that number
unfoldable pub date_on : ℕ → Option ℕ
date_on k = cond (is_day_number k) (Some (date_of_day k)) None
