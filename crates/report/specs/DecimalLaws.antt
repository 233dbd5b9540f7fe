-- Laws of numbers as they are written: how long they are, that they are digits, what they read back to, and that none begins with a needless 0.
-- Assumes nothing.
use Rattle.std.specs.Prelude.{ℕ, zero, suc, ◌+◌, ◌-◌, ◌*◌, ◌/◌, ◌%◌, ◌^◌, ◌≤◌, ◌<◌, ◌≡◌, refl, List, [], ◌∷◌, ◌++◌, length, get_or}
use Rattle.std.proofs.Common.{pow-suc, arith, sym, ap, ◌∙◌, length-append, lt-ltb, le-ltb}
use Rattle.std.proofs.Math.ListN.{get_or-append}
use Rattle.codec.specs.CaseLaws.{by_le}
use Rattle.report.specs.Report.{digits, decimal}

-- ---- digit by digit

digits-one : (k n : ℕ) → n < 10 → digits (suc k) n ≡ (48 + n) ∷ []
unfolding digits
digits-one k n h = rw (lt-ltb n 10 h)

digits-next : (k n : ℕ) → 10 ≤ n → digits (suc k) n ≡ digits k (n / 10) ++ ((48 + n % 10) ∷ [])
unfolding digits
digits-next k n h = rw (le-ltb n 10 h)

-- a tenth of a number below 10^(k + 1) is below 10^k
tenth : (k n : ℕ) → n < 10 ^ suc k → n / 10 < 10 ^ k
tenth k n h = omega (arith, pow-suc 10 k)

-- room for more digits than there are changes nothing
digits-enough : (k n : ℕ) → n < 10 ^ suc k → digits (suc (suc k)) n ≡ digits (suc k) n
digits-enough zero n h = let l : n < 10 = omega (arith, pow-suc 10 0) in digits-one 1 n l ∙ sym (digits-one 0 n l)
digits-enough (suc k) n h =
    by_le 10 n
    (λ g. digits-next (suc (suc k)) n g ∙ ap (λ (l : List ℕ). l ++ ((48 + n % 10) ∷ [])) (digits-enough k (n / 10) (tenth (suc k) n h)) ∙ sym (digits-next (suc k) n g))
    (λ l. digits-one (suc (suc k)) n l ∙ sym (digits-one (suc k) n l))

pub decimal-one : (n : ℕ) → n < 10 → decimal n ≡ (48 + n) ∷ []
decimal-one n h = digits-one 19 n h

pub decimal-next : (n : ℕ) → 10 ≤ n → n < 2 ^ 64 → decimal n ≡ decimal (n / 10) ++ ((48 + n % 10) ∷ [])
decimal-next n g h = digits-next 19 n g ∙ ap (λ (l : List ℕ). l ++ ((48 + n % 10) ∷ [])) (sym (digits-enough 18 (n / 10) (omega arith)))

-- ---- how long a number is

-- a number below 10^(j + 1) has at most j + 1 digits
digits-length : (k j n : ℕ) → n < 10 ^ suc j → length (digits k n) ≤ suc j
unfolding digits
digits-length zero j n h = omega arith
digits-length (suc k) zero n h = let l : n < 10 = omega (arith, pow-suc 10 0) in rw (lt-ltb n 10 l) (omega arith)
digits-length (suc k) (suc j) n h =
    by_le 10 n
    (λ g. rw (le-ltb n 10 g) (simp length-append (omega (arith, digits-length k j (n / 10) (tenth (suc j) n h)))))
    (λ l. rw (lt-ltb n 10 l) (omega arith))

-- at most so many digits as there is room for
digits-most : (k n : ℕ) → length (digits k n) ≤ k
unfolding digits
digits-most zero n = omega arith
digits-most (suc k) n =
    by_le 10 n
    (λ g. rw (le-ltb n 10 g) (simp length-append (omega (arith, digits-most k (n / 10)))))
    (λ l. rw (lt-ltb n 10 l) (omega arith))

pub decimal-most : (n : ℕ) → length (decimal n) ≤ 20
decimal-most n = digits-most 20 n

-- a refusal number has at most three digits
pub decimal-three : (n : ℕ) → n < 1000 → length (decimal n) ≤ 3
decimal-three n h = digits-length 20 2 n h

-- ---- its bytes are digits

-- a byte that is a decimal digit
abbrev pub Digit : ℕ → Type 0
Digit d = (48 ≤ d) × (d ≤ 57)

-- what holds of each byte of xs, and of y, holds of each byte of both
each_more : (xs : List ℕ) (y : ℕ) → ((i : ℕ) → i < length xs → Digit (get_or xs i 0)) → Digit y → (i : ℕ) → i < length (xs ++ (y ∷ [])) → Digit (get_or (xs ++ (y ∷ [])) i 0)
each_more [] y f d zero h = d
each_more [] y f d (suc i) h = absurd (omega arith)
each_more (x ∷ xs) y f d zero h = f zero (omega arith)
each_more (x ∷ xs) y f d (suc i) h = each_more xs y (λ j g. f (suc j) (omega arith)) d i (omega arith)

digits-each : (k n i : ℕ) → i < length (digits k n) → Digit (get_or (digits k n) i 0)
unfolding digits
digits-each zero n i = λ h. absurd (omega arith)
digits-each (suc k) n i =
    by_le 10 n
    (λ g. rw (le-ltb n 10 g) (each_more (digits k (n / 10)) (48 + n % 10) (digits-each k (n / 10)) (omega arith, omega arith) i))
    (λ l. rw (lt-ltb n 10 l) (each_more [] (48 + n) (λ j g. absurd (omega arith)) (omega arith, omega arith) i))

-- EACH BYTE OF A NUMBER IS A DIGIT
pub decimal-each : (n i : ℕ) → i < length (decimal n) → Digit (get_or (decimal n) i 0)
decimal-each n i h = digits-each 20 n i h

-- ---- what a number reads back to

-- digits read as a decimal number after one of value v
unfoldable pub value_from : ℕ → List ℕ → ℕ
value_from v [] = v
value_from v (d ∷ ds) = value_from (v * 10 + (d - 48)) ds

-- digits read as a decimal number
abbrev pub value_of : List ℕ → ℕ
value_of ds = value_from 0 ds

value-append : (v : ℕ) (xs ys : List ℕ) → value_from v (xs ++ ys) ≡ value_from (value_from v xs) ys
unfolding value_from
value-append v [] ys = refl
value-append v (d ∷ xs) ys = value-append (v * 10 + (d - 48)) xs ys

digits_value : (k n : ℕ) → n < 10 ^ k → value_of (digits k n) ≡ n
unfolding value_from digits
digits_value zero n h = omega arith
digits_value (suc k) n h =
    by_le 10 n
    (λ g. rw (digits-next k n g, value-append 0 (digits k (n / 10)) ((48 + n % 10) ∷ []), digits_value k (n / 10) (tenth k n h)) (omega arith))
    (λ l. rw (digits-one k n l) (omega arith))

-- A NUMBER OF 64 BITS READS BACK AS ITSELF
pub decimal-value : (n : ℕ) → n < 2 ^ 64 → value_of (decimal n) ≡ n
decimal-value n h = digits_value 20 n (omega arith)

-- the first digit is above 48 where the number is above 0
digits-first : (k n : ℕ) → 0 < n → n < 10 ^ k → 48 < get_or (digits k n) 0 0
digits-first zero n p h = absurd (omega arith)
digits-first (suc k) n p h =
    by_le 10 n
    (λ g.
    let i = digits-first k (n / 10) (omega arith) (tenth k n h) in
    rw (digits-next k n g, get_or-append (digits k (n / 10)) ((48 + n % 10) ∷ []) 0 0 (some (digits k (n / 10)) i)) i)
    (λ l. rw (digits-one k n l) (omega arith))
  where
    some : (l : List ℕ) → 48 < get_or l 0 0 → 0 < length l
    some [] h = absurd (omega arith)
    some (x ∷ l) h = omega arith

-- NO NUMBER BUT 0 BEGINS WITH A 0
pub decimal-first : (n : ℕ) → 0 < n → n < 2 ^ 64 → 48 < get_or (decimal n) 0 0
decimal-first n p h = digits-first 20 n p (omega arith)
