-- ONE ANSWER: two outcomes that meet a promise of a C function are equal.
-- Assumes nothing.
use Rattle.std.specs.Prelude.{ℕ, Option, ◌≡◌, List}
use Rattle.std.proofs.Common.{sym, ◌∙◌}
use Rattle.refusal.specs.declared.Refusal.{Refusal}
use Rattle.text.specs.Utf8.{utf8}
use Rattle.dates.specs.Day.{day_on, date_on}
use Rattle.c_texts.specs.Numbers.{bit, calendar_number, calendar_out, place_out}

-- a promise that is one equation, or several, of results and buffers that are lists
pub one : {A : Type 0} {x y z : A} → x ≡ z → y ≡ z → x ≡ y
one f g = f ∙ sym g

-- of dbn_text
pub one-text : (s : List ℕ) {r q : ℕ} → r ≡ bit (utf8 s) → q ≡ bit (utf8 s) → r ≡ q
one-text s f g = one f g

-- of dbn_date, from the date, and of dbn_day, from the day: number and `out`
pub one_calendar : (says : ℕ → Option ℕ) (n : ℕ) (o : List ℕ) {r q : ℕ} {o1 o2 : List ℕ}
    → (r ≡ calendar_number (says n)) × (o1 ≡ calendar_out (says n) o) → (q ≡ calendar_number (says n)) × (o2 ≡ calendar_out (says n) o) → (r ≡ q) × (o1 ≡ o2)
one_calendar says n o f g = (one f.0 g.0, one f.1 g.1)

pub one-date : (n : ℕ) (o : List ℕ) {r q : ℕ} {o1 o2 : List ℕ}
    → (r ≡ calendar_number (day_on n)) × (o1 ≡ calendar_out (day_on n) o) → (q ≡ calendar_number (day_on n)) × (o2 ≡ calendar_out (day_on n) o) → (r ≡ q) × (o1 ≡ o2)
one-date n o f g = one_calendar day_on n o f g

pub one-day : (k : ℕ) (o : List ℕ) {r q : ℕ} {o1 o2 : List ℕ}
    → (r ≡ calendar_number (date_on k)) × (o1 ≡ calendar_out (date_on k) o) → (q ≡ calendar_number (date_on k)) × (o2 ≡ calendar_out (date_on k) o) → (r ≡ q) × (o1 ≡ o2)
one-day k o f g = one_calendar date_on k o f g

-- of put_place
pub one_place : (e : Refusal) (o : List ℕ) {o1 o2 : List ℕ} → o1 ≡ place_out e o → o2 ≡ place_out e o → o1 ≡ o2
one_place e o f g = one f g
