-- What is known of a month, in one number, and months that are kept so that a date of one of them costs a look.
-- Assumes nothing.
use Rattle.std.specs.Prelude.{◌≡◌, Bool, false, cond, List, ℕ, ◌+◌, ◌-◌, ◌*◌, ◌/◌, ◌%◌, leb, eqb, get_or, set}
use Rattle.dates.specs.Date.{days_in}
use Rattle.dates.specs.Day.{days_to}

-- the days of a month of the years 0 to 9999
unfoldable pub days_of : ℕ → ℕ → ℕ
days_of y m = cond (leb y 9999) (days_in y m) 0

-- of a month, written year x 100 + month: its days x 2^28 + the days before it
unfoldable pub month_word : ℕ → ℕ
month_word q = days_of (q / 100) (q % 100) * 268435456 + days_to (q / 100) (q % 100)

-- a month that is kept: the month x 2^33 + what is known of it
abbrev pub kept : ℕ → ℕ
kept q = q * 8589934592 + month_word q

-- what stands where month q is kept
abbrev pub entry_at : List ℕ → ℕ → ℕ
entry_at ws q = get_or ws (q % 64) 0

-- what is known of month q: by the entry, where that is of this month
unfoldable pub word_in : List ℕ → ℕ → ℕ
word_in ws q = cond (eqb (entry_at ws q / 8589934592) q) (entry_at ws q % 8589934592) (month_word q)

-- the months after a look at month q
unfoldable pub months_after : List ℕ → ℕ → List ℕ
months_after ws q = cond (eqb (entry_at ws q / 8589934592) q) ws (set ws (q % 64) (kept q))

-- the months after a test of a date of month q: a look, but only where its place is empty
unfoldable pub months_tested : List ℕ → ℕ → List ℕ
months_tested ws q = cond (eqb (entry_at ws q) 0) (months_after ws q) ws

-- whether a number is a date, and the number of its day, by what is known of its month
unfoldable pub is_date_in : List ℕ → ℕ → Bool
is_date_in ws n = cond (leb 1 (n % 100)) (leb (n % 100) (word_in ws (n / 100) / 268435456)) false

unfoldable pub day_in : List ℕ → ℕ → ℕ
day_in ws n = word_in ws (n / 100) % 268435456 + (n % 100 - 1)

-- every entry says what is known of its month; so does 0, of month 0 of the year 0
pub record Right (ws : List ℕ) : Type 0 where
  pub entry : (i : ℕ) → get_or ws i 0 % 8589934592 ≡ month_word (get_or ws i 0 / 8589934592)
