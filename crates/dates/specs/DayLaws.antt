-- What the calendar's rule says of day numbers: how many days are before a year and a month, that a later date has a larger
-- number, that the date of a number is the one that has it, and that the day after is one more.
-- Assumes nothing.
use Rattle.std.specs.Prelude.{Some, ◌≡◌, Bool, true, false, cond, T, leb, ltb, eqb, get_or}
use Rattle.std.proofs.Math.Path.{refl, sym, ap}
use Rattle.std.proofs.Common.{subst, ◌∙◌, not-suc-le-zero, mod-lt, eqb→eq, leb→le}
use Prim.Native.Nat.{ℕ, zero, suc, ◌+◌, ◌-◌, ◌*◌, ◌/◌, ◌%◌, ◌≤◌, ◌<◌}
use native.Mathlib.Omega.{arith}
use Rattle.std.proofs.Math.Nat.{add-div_right, div-eq_of_lt, div-add-mod, mul-add-div}
use borrow.Author.Tests.{le-leb, lt-leb, leb-true, lt-ltb, le-ltb, ne_eqb}
use Rattle.std.proofs.Math.ListN.{get_or-eq_default}
use Rattle.codec.specs.CaseLaws.{by_le, by_order, by_eqb, by_bool, no_true}
use Rattle.codec.specs.Every.{both, both_left, both_right}
use Rattle.dates.specs.Date.{is_leap, months, days_in, is_day, is_date}
use Rattle.dates.specs.Day.{days_before, days_of_year, days_to, day_number, day_of, is_day_number, last_by, year_of, month_of, in_year, date_of_day, date_after, date_on}

-- ---- years or months that follow each other, each of so many days

module _ (days : ℕ → ℕ) where
  pub before-none : days_before days 0 ≡ 0
  unfolding days_before
  before-none = refl

  pub before-next : (n : ℕ) → days_before days (suc n) ≡ days_before days n + days n
  unfolding days_before
  before-next n = refl

  -- each ends before a later one begins
  pub before-later : (i j : ℕ) → i < j → days_before days i + days i ≤ days_before days j
  before-later i zero h = omega arith
  before-later i (suc j) h =
      by_order i j
      (λ lt. omega (arith, before-later i j lt, before-next j))
      (λ eq. rw eq (omega (arith, before-next j)))
      (λ gt. omega arith)

  pub before-from : (i j : ℕ) → i ≤ j → days_before days i ≤ days_before days j
  before-from i j h =
      by_order i j (λ lt. omega (arith, before-later i j lt)) (λ eq. rw eq (omega arith)) (λ gt. omega arith)

  -- the one in which day k is, is the last that begins by then
  last-is : (most n k : ℕ) → n ≤ most → days_before days n ≤ k → k < days_before days (suc n) → last_by days most k ≡ n
  unfolding last_by
  last-is zero n k h lo hi = omega arith
  last-is (suc most) n k h lo hi =
      by_order n (suc most)
      (λ lt. rw (lt-leb (days_before days (suc most)) k (omega (arith, before-from (suc n) (suc most) lt))) (last-is most n k (omega arith) lo hi))
      (λ eq. rw (le-leb (days_before days (suc most)) k (subst (λ (m : ℕ). days_before days m ≤ k) eq lo)) (sym eq))
      (λ gt. omega arith)

  -- day k is in the last that begins by then
  pub record In (most k n : ℕ) : Type 0 where
    pub among : n ≤ most
    pub begun : days_before days n ≤ k
    pub within : k < days_before days n + days n

  pub in_is : (most k n : ℕ) → In most k n → n ≡ last_by days most k
  in_is most k n i = sym (last-is most n k i.among i.begun (omega (arith, i.within, before-next n)))

  pub in_last : (most k : ℕ) → k < days_before days (suc most) → In most k (last_by days most k)
  unfolding last_by
  in_last zero k h = record { among = omega arith; begun = rw before-none (omega arith); within = omega (arith, before-next 0) }
  in_last (suc most) k h =
      by_le (days_before days (suc most)) k
      (λ le. rw (le-leb (days_before days (suc most)) k le) (record { among = omega arith; begun = le; within = omega (arith, before-next (suc most)) }))
      (λ lt. rw (lt-leb (days_before days (suc most)) k lt) (let i = in_last most k lt in record { among = omega (arith, i.among); begun = i.begun; within = i.within }))

-- ---- the months of a year

-- 1 in a leap year, else 0
unfoldable pub leap_day : ℕ → ℕ
leap_day y = cond (is_leap y) 1 0

-- the days of the months, in a leap year or not
abbrev lengths : Bool → ℕ → ℕ
lengths leap m = get_or (months leap) m 0

-- the days before month m, in one line for January and February and one for the months after them
abbrev pub month_days : ℕ → ℕ → ℕ
month_days extra m = cond (ltb m 3) (31 * (m / 2)) ((979 * m - 1031) / 32 + extra)

-- a test that passes below n
abbrev below : (ℕ → Bool) → ℕ → Bool
below f zero = true
below f (suc n) = both (below f n) (f n)

below_at : (f : ℕ → Bool) (n : ℕ) → T (below f n) → (k : ℕ) → k < n → T (f k)
below_at f zero t k h = absurd (not-suc-le-zero h)
below_at f (suc n) t k h =
    by_order k n (λ lt. below_at f n (both_left (below f n) (f n) t) k lt) (λ eq. subst (λ (m : ℕ). T (f m)) (sym eq) (both_right (below f n) (f n) t)) (λ gt. absurd (omega arith))

-- computed for the fourteen months from 0 to 13, of a leap year and of another
lengths-before : (leap : Bool) (m : ℕ) → m < 14 → month_days (cond leap 1 0) m ≡ days_before (lengths leap) m
unfolding days_before
lengths-before true m h = eqb→eq _ _ (below_at (λ m. eqb (month_days 1 m) (days_before (lengths true) m)) 14 tt m h)
lengths-before false m h = eqb→eq _ _ (below_at (λ m. eqb (month_days 0 m) (days_before (lengths false) m)) 14 tt m h)

pub month-before : (y m : ℕ) → m < 14 → month_days (leap_day y) m ≡ days_before (days_in y) m
unfolding days_in leap_day
month-before y m h = lengths-before (is_leap y) m h

pub past : (y m : ℕ) → 12 < m → 0 ≡ days_in y m
unfolding days_in
past y m h = sym (get_or-eq_default (months (is_leap y)) 0 h)

pub year_days : (y : ℕ) → 365 + leap_day y ≡ days_of_year y
unfolding days_of_year
year_days y = month-before y 13 (omega arith)

pub month-past : (y m : ℕ) → 12 < m → 365 + leap_day y ≡ days_before (days_in y) m
month-past y zero h = omega arith
month-past y (suc m) h =
    by_le m 12
    (λ le. let e : m ≡ 12 = omega arith in rw e (month-before y 13 (omega arith)))
    (λ lt. omega (arith, month-past y m lt, before-next (days_in y) m, past y m lt))

pub leap_most : (y : ℕ) → leap_day y ≤ 1
unfolding leap_day
leap_most y = by_bool (is_leap y) (λ e. rw e (omega arith)) (λ e. rw e (omega arith))

pub february_days : (y : ℕ) → 28 + leap_day y ≡ days_in y 2
unfolding leap_day days_in
february_days y = by_bool (is_leap y) (λ e. rw e refl) (λ e. rw e refl)

december_days : (y : ℕ) → days_in y 12 ≡ 31
unfolding days_in
december_days y = refl

-- no month has more days before it than a year has
pub month-below : (y m : ℕ) → days_before (days_in y) m ≤ 366
month-below y m =
    by_le 13 m (λ le. omega (arith, month-past y m le, leap_most y)) (λ lt. omega (arith, before-from (days_in y) m 13 (omega arith), month-past y 13 (omega arith), leap_most y))

-- ---- the years

-- 1 for 0, else 0
unfoldable is_none : ℕ → ℕ
is_none r = cond (eqb r 0) 1 0

-- how many of the years before y are multiples of q
unfoldable pub multiples : ℕ → ℕ → ℕ
multiples q y = (y + (q - 1)) / q

-- one more after each of them
multiples-next : (q y : ℕ) → 0 < q → is_none (y % q) + multiples q y ≡ multiples q (suc y)
unfolding is_none multiples
multiples-next q y pos =
    by_eqb (y % q) 0
    (λ e h. rw (e, next, whole) (omega (arith, none h)))
    (λ e h. rw (e, next, whole) (omega (arith, rest h)))
  where
    next : (suc y + (q - 1)) / q ≡ y / q + 1
    next = ap (λ (m : ℕ). m / q) (omega arith) ∙ add-div_right y {k = q} pos

    whole : (y + (q - 1)) / q ≡ y / q + (y % q + (q - 1)) / q
    whole = ap (λ (m : ℕ). m / q) (let e = div-add-mod y q in omega arith) ∙ mul-add-div pos (y / q) (y % q + (q - 1))

    none : y % q ≡ 0 → (y % q + (q - 1)) / q ≡ 0
    none h = div-eq_of_lt (omega arith)

    rest : (y % q ≡ 0 → ⊥) → (y % q + (q - 1)) / q ≡ 1
    rest h = let l = mod-lt y {m = q} pos in ap (λ (m : ℕ). m / q) (omega arith) ∙ add-div_right (y % q - 1) {k = q} pos ∙ ap (λ (m : ℕ). m + 1) (div-eq_of_lt (omega arith))

-- by the Gregorian rule
leap_rule : (y : ℕ) → leap_day y + is_none (y % 100) ≡ is_none (y % 4) + is_none (y % 400)
unfolding leap_day is_leap is_none
leap_rule y =
    by_eqb (y % 100) 0
    (λ e h. let four : y % 4 ≡ 0 = omega arith in by_eqb (y % 400) 0 (λ e' h'. rw (e, e', four) refl) (λ e' h'. rw (e, e', four) refl))
    (λ e h. let other : y % 400 ≡ 0 → ⊥ = omega arith in rw (ne_eqb (y % 400) 0 other) (by_eqb (y % 4) 0 (λ e' h'. rw (e, e') refl) (λ e' h'. rw (e, e') refl)))

-- the days before a year: 365 for each, and one more for each fourth, but of the hundredth only for each fourth
pub year-before : (y : ℕ) → days_before days_of_year y + multiples 100 y ≡ 365 * y + multiples 4 y + multiples 400 y
unfolding multiples
year-before zero = rw (before-none days_of_year) none
  where
    none : 0 + multiples 100 0 ≡ 365 * 0 + multiples 4 0 + multiples 400 0
    none = refl
year-before (suc y) =
    omega (
      arith,
      before-next days_of_year y,
      year_days y,
      leap_rule y,
      multiples-next 4 y (omega arith),
      multiples-next 100 y (omega arith),
      multiples-next 400 y (omega arith),
      year-before y,
    )

pub year-most : (y : ℕ) → days_before days_of_year y ≤ 366 * y
unfolding multiples
year-most y = omega (arith, year-before y)

-- the years 0 to 9999 have so many days
pub all_days : days_before days_of_year 10000 ≡ 3652425
unfolding multiples
all_days = let e = year-before 10000 in omega arith

-- so a number up to the last of them has a date
pub date-on : (k : ℕ) → k ≤ 3652424 → date_on k ≡ Some (date_of_day k)
unfolding date_on is_day_number
date-on k h = let e : k < days_before days_of_year 10000 = omega (arith, all_days) in rw (lt-ltb k (days_before days_of_year 10000) e)

-- ---- a date and its day

-- what a date says of its year, month and day
pub record Dated (y m d : ℕ) : Type 0 where
  pub year : y ≤ 9999
  pub month : m ≤ 12
  pub first : 1 ≤ d
  pub last : d ≤ days_in y m

lengths-most : (leap : Bool) (m : ℕ) → m < 13 → lengths leap m ≤ 31
lengths-most true m h = leb→le _ _ (below_at (λ m. leb (lengths true m) 31) 13 tt m h)
lengths-most false m h = leb→le _ _ (below_at (λ m. leb (lengths false m) 31) 13 tt m h)

lengths-least : (leap : Bool) (m : ℕ) → m < 12 → 1 ≤ lengths leap (suc m)
lengths-least true m h = leb→le _ _ (below_at (λ m. leb 1 (lengths true (suc m))) 12 tt m h)
lengths-least false m h = leb→le _ _ (below_at (λ m. leb 1 (lengths false (suc m))) 12 tt m h)

-- a month has a first day
pub month-least : (y m : ℕ) → m < 12 → 1 ≤ days_in y (suc m)
unfolding days_in
month-least y m h = lengths-least (is_leap y) m h

-- a month has at most 31 days
pub month-most : (y m : ℕ) → days_in y m ≤ 31
unfolding days_in
month-most y m = by_le m 12 (λ le. lengths-most (is_leap y) m (omega arith)) (λ lt. omega (arith, past y m lt))

pub dated : (y m d : ℕ) → is_day y m d ≡ true → Dated y m d
unfolding is_day
dated y m d e =
    by_bool (leb y 9999)
    (λ l. by_bool (leb 1 d)
    (λ l'. record {
      year = leb-true y 9999 l;
      month = by_le m 12 (λ le. le) (λ lt. absurd (omega (arith, past y m lt, leb-true 1 d l', leb-true d (days_in y m) (simp (l, l') at e))));
      first = leb-true 1 d l';
      last = leb-true d (days_in y m) (simp (l, l') at e);
    })
    (λ l'. absurd (no_true (sym (simp (l, l') at e)))))
    (λ l. absurd (no_true (sym (simp l at e))))

pub is-dated : (y m d : ℕ) → Dated y m d → is_day y m d ≡ true
unfolding is_day
is-dated y m d h = rw (le-leb y 9999 h.year, le-leb 1 d h.first) (le-leb d (days_in y m) h.last)

digits : (y m d : ℕ) → m < 100 → d < 100 → ((y * 10000 + m * 100 + d) / 10000 ≡ y) × ((y * 10000 + m * 100 + d) / 100 % 100 ≡ m) × ((y * 10000 + m * 100 + d) % 100 ≡ d)
digits y m d hm hd = (omega arith, omega arith, omega arith)

-- of a number that is written from a year, a month and a day
pub written : (y m d : ℕ) → m < 100 → d < 100 → is_date (y * 10000 + m * 100 + d) ≡ is_day y m d
unfolding is_date
written y m d hm hd = let (year, month, day) = digits y m d hm hd in rw (year, month, day)

pub written_day : (y m d : ℕ) → m < 100 → d < 100 → day_of (y * 10000 + m * 100 + d) ≡ day_number y m d
unfolding day_of
written_day y m d hm hd = let (year, month, day) = digits y m d hm hd in rw (year, month, day)

module _ {y m d : ℕ} (h : Dated y m d) where
  -- a day is in its month, and in its year
  in_month : days_before (days_in y) m + (d - 1) < days_before (days_in y) (suc m)
  in_month = omega (arith, before-next (days_in y) m, h.first, h.last)

  in_a-year : days_before (days_in y) m + (d - 1) < days_of_year y
  unfolding days_of_year
  in_a-year = omega (arith, in_month, before-from (days_in y) (suc m) 13 (omega (arith, h.month)))

  number_in_year : day_number y m d < days_before days_of_year (suc y)
  unfolding day_number days_to
  number_in_year = omega (arith, in_a-year, before-next days_of_year y)

  -- a date's number is a day's
  pub number-below : day_number y m d < days_before days_of_year 10000
  number-below = omega (arith, number_in_year, before-from days_of_year (suc y) 10000 (omega (arith, h.year)))

  -- the date of its number
  pub date-of-number : date_of_day (day_number y m d) ≡ y * 10000 + m * 100 + d
  unfolding date_of_day year_of in_year month_of day_number days_to
  date-of-number =
      let k = days_before days_of_year y + days_before (days_in y) m + (d - 1) in
      let rest : k - days_before days_of_year y ≡ days_before (days_in y) m + (d - 1) = omega arith in
      rw (
        last-is days_of_year 9999 y k h.year (omega arith) number_in_year,
        rest,
        last-is (days_in y) 12 m (days_before (days_in y) m + (d - 1)) h.month (omega arith) in_month,
      ) (omega (arith, h.first))

  -- its number is that of the written date
  pub number-of-date : day_number y m d ≡ day_of (y * 10000 + m * 100 + d)
  number-of-date = sym (written_day y m d (omega (arith, h.month)) (omega (arith, h.last, month-most y m)))

-- ---- the laws of dates

-- year, month and day of a date
pub date-is : (n : ℕ) → is_date n ≡ true → Dated (n / 10000) (n / 100 % 100) (n % 100)
unfolding is_date
date-is n e = dated (n / 10000) (n / 100 % 100) (n % 100) e

-- 1 January of the year 0 is the first
pub first-date : is_date 101 ≡ true
unfolding is_date is_day days_in is_leap
first-date = refl

-- a date's number is at most 3,652,424
pub date-below : (n : ℕ) → is_date n ≡ true → day_of n ≤ 3652424
unfolding day_of
date-below n e = omega (arith, number-below (date-is n e), all_days)

-- the date of a date's number is that date
pub date-back : (n : ℕ) → is_date n ≡ true → date_of_day (day_of n) ≡ n
unfolding day_of
date-back n e = date-of-number (date-is n e) ∙ omega arith

-- a later date has a larger number
number-rises : {y m d y' m' d' : ℕ} → Dated y m d → Dated y' m' d' → y * 10000 + m * 100 + d < y' * 10000 + m' * 100 + d' → day_number y m d < day_number y' m' d'
unfolding day_number days_to
number-rises {y} {m} {d} {y'} {m'} {d'} h h' lt =
    by_order y y'
    (λ less. omega (arith, in_a-year h, before-later days_of_year y y' less))
    (λ same. by_order m m'
    (λ less. rw same (omega (arith, subst (λ (z : ℕ). days_before (days_in z) m + (d - 1) < days_before (days_in z) (suc m)) same (in_month h), before-from (days_in y') (suc m) m' less)))
    (λ same'. rw (same, same') (omega (arith, h.first)))
    (λ more. absurd (omega (arith, h.last, month-most y m, h'.last, month-most y' m'))))
    (λ more. absurd (omega (arith, h.last, month-most y m, h.month, h'.last, month-most y' m', h'.month)))

pub date-rises : (a b : ℕ) → is_date a ≡ true → is_date b ≡ true → a < b → day_of a < day_of b
unfolding day_of
date-rises a b e f lt = number-rises (date-is a e) (date-is b f) (omega arith)

-- ---- the laws of days

module _ (k : ℕ) (h : k ≤ 3652424) where
  in_one-year : In days_of_year 9999 k (year_of k)
  unfolding year_of
  in_one-year = in_last days_of_year 9999 k (omega (arith, all_days))

  -- the days before it in its year
  abbrev left : ℕ
  left = k - days_before days_of_year (year_of k)

  abbrev month : ℕ
  month = month_of (year_of k) left

  in_one-month : In (days_in (year_of k)) 12 left month
  unfolding days_of_year month_of
  in_one-month = in_last (days_in (year_of k)) 12 left (omega (arith, in_one-year.begun, in_one-year.within))

  abbrev day : ℕ
  day = left - days_before (days_in (year_of k)) month + 1

  dated-day : Dated (year_of k) month day
  dated-day = record {
    year = in_one-year.among;
    month = in_one-month.among;
    first = omega arith;
    last = omega (arith, in_one-month.begun, in_one-month.within);
  }

  written_so : date_of_day k ≡ year_of k * 10000 + month * 100 + day
  unfolding date_of_day in_year
  written_so = omega arith

  -- there is a date of that number
  pub day-dated : is_date (date_of_day k) ≡ true
  day-dated =
      ap is_date written_so
      ∙ written (year_of k) month day (omega (arith, dated-day.month)) (omega (arith, dated-day.last, month-most (year_of k) month))
      ∙ is-dated (year_of k) month day dated-day

  -- and that is its number
  pub day-back : day_of (date_of_day k) ≡ k
  unfolding day_number days_to
  day-back =
      ap day_of written_so
      ∙ sym (number-of-date dated-day)
      ∙ omega (arith, in_one-year.begun, in_one-month.begun)

-- the date after a date is a date, but after the last, and its day is one more
module _ (n : ℕ) (e : is_date n ≡ true) where
  abbrev y : ℕ
  y = n / 10000

  abbrev m : ℕ
  m = n / 100 % 100

  abbrev d : ℕ
  d = n % 100

  -- it is written so
  record After : Type 0 where
    year : ℕ
    month : ℕ
    day : ℕ
    written_so : date_after n ≡ year * 10000 + month * 100 + day
    small : (month < 100) × (day < 100)
    more : day_number year month day ≡ day_number y m d + 1
    dated : n < 99991231 → Dated year month day

  after_in_month : d < days_in y m → After
  unfolding date_after day_number days_to
  after_in_month lt = record {
    year = y;
    month = m;
    day = d + 1;
    written_so = rw (lt-ltb d (days_in y m) lt) (omega arith);
    small = (omega arith, omega (arith, month-most y m));
    more = omega (arith, (date-is n e).first);
    dated = λ _. record { year = (date-is n e).year; month = (date-is n e).month; first = omega arith; last = omega arith };
  }

  after_in_year : days_in y m ≤ d → m < 12 → After
  unfolding date_after day_number days_to
  after_in_year ge lt = record {
    year = y;
    month = suc m;
    day = 1;
    written_so = rw (le-ltb d (days_in y m) ge, lt-ltb m 12 lt) (omega arith);
    small = (omega arith, omega arith);
    more = omega (arith, (date-is n e).first, (date-is n e).last, before-next (days_in y) m);
    dated = λ _. record { year = (date-is n e).year; month = lt; first = omega arith; last = month-least y m lt };
  }

  after-year : days_in y m ≤ d → 12 ≤ m → After
  unfolding date_after day_number days_to days_of_year
  after-year ge le = record {
    year = suc y;
    month = 1;
    day = 1;
    written_so = rw (le-ltb d (days_in y m) ge, le-ltb m 12 le) (omega arith);
    small = (omega arith, omega arith);
    more = rw december (omega (arith, (date-is n e).first, last, before-next days_of_year y, months, before-next (days_in y) 12, month-before (suc y) 1 (omega arith)));
    dated = λ h. record { year = omega (arith, last, december_days y); month = omega arith; first = omega arith; last = month-least (suc y) 0 (omega arith) };
  }
    where
      december : m ≡ 12
      december = omega (arith, (date-is n e).month)

      last : d ≡ days_in y 12
      last = omega (arith, ap (days_in y) december, (date-is n e).last)

      months : days_of_year y ≡ days_before (days_in y) 13
      months = refl

  after : After
  after = by_le (days_in y m) d (λ ge. by_le 12 m (λ le. after-year ge le) (λ lt. after_in_year ge lt)) (λ lt. after_in_month lt)

  pub day-after : day_of (date_after n) ≡ day_of n + 1
  unfolding day_of
  day-after = ap day_of after.written_so ∙ written_day after.year after.month after.day after.small.0 after.small.1 ∙ after.more

  pub after-dated : n < 99991231 → is_date (date_after n) ≡ true
  after-dated h =
      ap is_date after.written_so ∙ written after.year after.month after.day after.small.0 after.small.1
      ∙ is-dated after.year after.month after.day (after.dated h)
