-- Months that are kept change no answer. Assumes nothing.
use Rattle.std.specs.Prelude.{Some, None, ◌≡◌, refl, cond, List, ℕ, ◌+◌, ◌-◌, ◌/◌, ◌%◌, ◌≤◌, ◌<◌, leb, eqb, get_or, set, length, replicate}
use Rattle.std.proofs.Math.Path.{sym, ap}
use Rattle.std.proofs.Common.{subst, ◌∙◌, get_or-set_same, get_or-set_other}
use Rattle.std.proofs.Math.Bool.{true, false}
use native.Mathlib.Omega.{arith}
use Rattle.std.proofs.lemmas.List.{get_or-replicate, length-replicate}
use Rattle.std.proofs.Math.ListN.{get_or-eq_default}
use Rattle.std.proofs.Math.Seq.{set_out}
use borrow.Author.Tests.{le-leb, lt-leb}
use Rattle.codec.specs.CaseLaws.{by_le, by_bool, by_eqb}
use Rattle.dates.specs.Date.{is_leap, days_in, is_day, is_date}
use Rattle.dates.specs.Day.{days_before, days_to, day_number, day_of, day_on}
use Rattle.dates.specs.DayLaws.{month-most, month-below, year-most}
use Rattle.dates.specs.Months.{days_of, month_word, kept, entry_at, word_in, months_after, months_tested, is_date_in, day_in, Right}

-- ---- a month in one number

pub days_most : (y m : ℕ) → days_of y m ≤ 31
unfolding days_of
days_most y m = by_bool (leb y 9999) (λ e. rw e (month-most y m)) (λ e. rw e (omega arith))

-- for every number of 32 bits that begins with that month
module _ (q : ℕ) (small : q ≤ 42949672) where
  first_below : days_to (q / 100) (q % 100) < 268435456
  unfolding days_to
  first_below = omega (arith, year-most (q / 100), month-below (q / 100) (q % 100))

  pub word_below : month_word q < 8589934592
  unfolding month_word
  word_below = let h = days_most (q / 100) (q % 100) in let l = first_below in omega arith

  pub word_days : month_word q / 268435456 ≡ days_of (q / 100) (q % 100)
  unfolding month_word
  word_days = let l = first_below in omega arith

  pub word_first : month_word q % 268435456 ≡ days_to (q / 100) (q % 100)
  unfolding month_word
  word_first = let l = first_below in omega arith

module _ (n : ℕ) (small : n ≤ 4294967295) where
  year : n / 100 / 100 ≡ n / 10000
  year = omega arith

  begins : n / 100 ≤ 42949672
  begins = omega arith

  -- a date by its month's number
  date-by_word : cond (leb 1 (n % 100)) (leb (n % 100) (month_word (n / 100) / 268435456)) false ≡ is_date n
  unfolding is_date is_day days_of
  date-by_word =
      rw (word_days (n / 100) begins, year)
      (by_le (n / 10000) 9999
      (λ le. rw (le-leb (n / 10000) 9999 le))
      (λ gt. rw (lt-leb (n / 10000) 9999 gt) (by_le 1 (n % 100) (λ le. rw (le-leb 1 (n % 100) le) (lt-leb (n % 100) 0 le)) (λ lt. rw (lt-leb 1 (n % 100) lt)))))

  day-by_word : month_word (n / 100) % 268435456 + (n % 100 - 1) ≡ day_of n
  unfolding day_of day_number
  day-by_word = rw (word_first (n / 100) begins, year)

  -- what the calendar says of a number, by the tests of the code
  pub no-first : n % 100 < 1 → day_on n ≡ None
  unfolding day_on
  no-first lt = let no : is_date n ≡ false = sym date-by_word ∙ rw (lt-leb 1 (n % 100) lt) in rw no

  pub no_last : 1 ≤ n % 100 → month_word (n / 100) / 268435456 < n % 100 → day_on n ≡ None
  unfolding day_on
  no_last le lt = let no : is_date n ≡ false = sym date-by_word ∙ rw (le-leb 1 (n % 100) le, lt-leb (n % 100) (month_word (n / 100) / 268435456) lt) in rw no

  pub a-day : 1 ≤ n % 100 → n % 100 ≤ month_word (n / 100) / 268435456 → day_on n ≡ Some (month_word (n / 100) % 268435456 + n % 100 - 1)
  unfolding day_on
  a-day le le' =
      let yes : is_date n ≡ true = sym date-by_word ∙ rw (le-leb 1 (n % 100) le, le-leb (n % 100) (month_word (n / 100) / 268435456) le') in
      rw yes (ap Some (omega (arith, day-by_word)))

-- ---- months that are kept

zero-at : (n i : ℕ) → get_or (replicate {A = ℕ} n 0) i 0 ≡ 0
zero-at n i =
    by_le n i
    (λ le. get_or-eq_default (replicate {A = ℕ} n 0) 0 (subst (λ (m : ℕ). m ≤ i) (sym (length-replicate {A = ℕ} n 0)) le))
    (λ lt. get_or-replicate n i 0 0 lt)

none : 0 % 8589934592 ≡ month_word (0 / 8589934592)
unfolding month_word days_to days_of days_before days_in is_leap
none = refl

-- nothing but zeros
pub right-none : (n : ℕ) → Right (replicate n 0)
right-none n = record { entry = λ i. rw (zero-at n i) none }

-- a test of a date of a month that is kept
pub tested_known : (ws : List ℕ) (q : ℕ) → eqb (entry_at ws q / 8589934592) q ≡ true → months_tested ws q ≡ ws
unfolding months_tested months_after
tested_known ws q is = by_bool (eqb (entry_at ws q) 0) (λ e. rw (e, is)) (λ e. rw e)

module _ (ws : List ℕ) (h : Right ws) where
  pub word_right : (q : ℕ) → word_in ws q ≡ month_word q
  unfolding word_in
  word_right q = by_eqb (entry_at ws q / 8589934592) q (λ e f. rw e (h.entry (q % 64) ∙ ap month_word f)) (λ e f. rw e)

  pub date-right : (n : ℕ) → n ≤ 4294967295 → is_date_in ws n ≡ is_date n
  unfolding is_date_in
  date-right n small = rw (word_right (n / 100)) (date-by_word n small)

  pub day-right : (n : ℕ) → n ≤ 4294967295 → day_in ws n ≡ day_of n
  unfolding day_in
  day-right n small = rw (word_right (n / 100)) (day-by_word n small)

  -- a look keeps them right
  pub right-after : (q : ℕ) → q ≤ 42949672 → Right (months_after ws q)
  unfolding months_after
  right-after q small = by_bool (eqb (entry_at ws q / 8589934592) q) (λ e. rw e h) (λ e. rw e (record { entry = λ i. entry-after i }))
    where
      is : kept q % 8589934592 ≡ month_word (kept q / 8589934592)
      is = let month : kept q / 8589934592 ≡ q = omega (arith, word_below q small) in rw month (omega (arith, word_below q small))

      entry-after : (i : ℕ) → get_or (set ws (q % 64) (kept q)) i 0 % 8589934592 ≡ month_word (get_or (set ws (q % 64) (kept q)) i 0 / 8589934592)
      entry-after i =
          by_eqb i (q % 64)
          (λ e f. by_le (length ws) (q % 64)
          (λ le. rw (set_out ws (q % 64) (kept q) le) (h.entry i))
          (λ lt. rw (f, get_or-set_same ws (q % 64) (kept q) 0 lt) is))
          (λ e f. rw (get_or-set_other ws (q % 64) i (kept q) 0 f) (h.entry i))

  -- so does a test
  pub right_tested : (q : ℕ) → q ≤ 42949672 → Right (months_tested ws q)
  unfolding months_tested
  right_tested q small = by_bool (eqb (entry_at ws q) 0) (λ e. rw e (right-after q small)) (λ e. rw e h)
