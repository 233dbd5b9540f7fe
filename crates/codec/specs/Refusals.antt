-- Which numbers a reader may refuse with, and where.
-- Assumes nothing.
use Rattle.std.specs.Prelude.{ℕ, ◌≤◌, ◌≡◌, Bool, true, ◌&&◌, List, [], ◌∷◌, length}
use Rattle.refusal.specs.declared.Refusal.{Refusal}
use Rattle.codec.specs.Codec.{Res, ok, refuse, Codec, among}

-- P holds of the number, where there is a refusal
abbrev pub Gives : {A : Type 0} → (ℕ → Type 0) → Res A → Type 0
Gives P (ok x j) = Unit {0}
Gives P (refuse k) = P k.number

-- P holds of every number that the format refuses with
abbrev pub Only : {A : Type 0} → (ℕ → Type 0) → Codec A → Type 0
Only P c = (base : ℕ) (s : List ℕ) (i : ℕ) → Gives P (c.parse base s i)

-- k is a number of the list
abbrev pub In : List ℕ → ℕ → Type 0
In ns k = among k ns ≡ true

-- every number of one list is one of the other
abbrev pub all_among : List ℕ → List ℕ → Bool
all_among [] ys = true
all_among (x ∷ xs) ys = among x ys && all_among xs ys

-- every number of the list passes the test
abbrev pub all_pass : (ℕ → Bool) → List ℕ → Bool
all_pass test [] = true
all_pass test (x ∷ xs) = test x && all_pass test xs

-- P holds of a number of the rules, unless it is 0, which is none
abbrev pub Fault : (ℕ → Type 0) → ℕ → Type 0
Fault P n = (n ≡ 0 → ⊥) → P n

-- a value read from i on ends at i or after it and within n bytes; a refusal's place is at most n
pub data Within {A : Type 0} (i n : ℕ) : Res A → Type 0 where
  ends : {x : A} {j : ℕ} → i ≤ j → j ≤ n → Within i n (ok x j)
  tells : {k : Refusal} → k.place ≤ n → Within i n (refuse k)

-- whatever a format is given, it ends within it, and so does the place of a refusal
abbrev pub Inside : {A : Type 0} → Codec A → Type 0
Inside c = (base : ℕ) (s : List ℕ) (i : ℕ) → i ≤ length s → Within i (length s) (c.parse base s i)
