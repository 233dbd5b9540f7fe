-- What document 01 has checked by hand: P12, by computation; and days of document 02, each beside its date.
-- Assumes nothing.
use Rattle.std.specs.Prelude.{ℕ, ◌+◌, ◌-◌, ◌*◌, ◌/◌, ◌%◌, ◌<◌, ◌≡◌, refl, true, false, ltb}
use Rattle.std.proofs.Common.{arith, sym, ap, ◌∙◌}
use Rattle.dates.specs.Date.{is_leap, days_in, is_day, is_date}
use Rattle.dates.specs.Day.{days_to, day_number, day_of, is_day_number, date_of_day, date_after}
use Rattle.dates.specs.DayLaws.{leap_day, month_days, month-before, multiples, year-before, all_days, date-back}

-- 29 February of 2024 and of 2000; not of 1900, and no month 13
pub p12 :
    (is_date 20240229 ≡ true) × (is_date 20000229 ≡ true) × (is_date 19000229 ≡ false) × (is_date 20241301 ≡ false)
unfolding is_date is_day days_in is_leap
p12 = (refl, refl, refl, refl)

-- the year 0 is a leap year, and the last date is in 9999
pub ends : (is_date 229 ≡ true) × (is_date 99991231 ≡ true) × (is_date 100000101 ≡ false) × (is_date 0 ≡ false)
unfolding is_date is_day days_in is_leap
ends = (refl, refl, refl, refl)

-- a day's number by the laws, since the definition adds up all years before it
by_laws :
    (n k : ℕ)
    → n / 100 % 100 < 14
    → k + multiples 100 (n / 10000) ≡ 365 * (n / 10000) + multiples 4 (n / 10000) + multiples 400 (n / 10000) + month_days (leap_day (n / 10000)) (n / 100 % 100) + (n % 100 - 1)
    → day_of n ≡ k
unfolding day_of day_number days_to
by_laws n k h e = omega (arith, year-before (n / 10000), month-before (n / 10000) (n / 100 % 100) h)

-- 1 January of the years 0 and 1; 29 February and 1 March of the year 0; 1 January of 1970 and a day of 2024
pub days :
    (day_of 101 ≡ 0) × (day_of 10101 ≡ 366) × (day_of 229 ≡ 59) × (day_of 301 ≡ 60) × (day_of 19700101 ≡ 719528) × (day_of 20240229 ≡ 739310)
unfolding multiples leap_day is_leap
days =
    (by_laws 101 0 (omega arith) refl, by_laws 10101 366 (omega arith) refl, by_laws 229 59 (omega arith) refl, by_laws 301 60 (omega arith) refl, by_laws 19700101 719528 (omega arith) refl, by_laws 20240229 739310 (omega arith) refl)

-- the last of all
pub last : (day_of 99991231 ≡ 3652424) × (is_day_number 3652424 ≡ true) × (is_day_number 3652425 ≡ false)
unfolding multiples leap_day is_leap is_day_number
last = (by_laws 99991231 3652424 (omega arith) refl, ap (ltb 3652424) all_days, ap (ltb 3652425) all_days)

-- back, by the law, since the definition looks through all years
from : (n k : ℕ) → is_date n ≡ true → day_of n ≡ k → date_of_day k ≡ n
from n k e f = ap date_of_day (sym f) ∙ date-back n e

pub back : (date_of_day 0 ≡ 101) × (date_of_day 366 ≡ 10101) × (date_of_day 59 ≡ 229) × (date_of_day 60 ≡ 301) × (date_of_day 739310 ≡ 20240229) × (date_of_day 3652424 ≡ 99991231)
unfolding is_date is_day days_in is_leap
back = (from 101 0 refl days.0, from 10101 366 refl days.1, from 229 59 refl days.2, from 301 60 refl days.3, from 20240229 739310 refl days.5, from 99991231 3652424 refl last.0)

pub after : (date_after 20240228 ≡ 20240229) × (date_after 20240229 ≡ 20240301) × (date_after 19000228 ≡ 19000301) × (date_after 19991231 ≡ 20000101)
unfolding date_after days_in is_leap
after = (refl, refl, refl, refl)
