-- The marks of label codes: set as labels are read, and cleared by a second walk over the labels.
-- Assumes nothing.
use Rattle.std.specs.Prelude.{ℕ, suc, ◌+◌, ◌≤◌, List, [], ◌∷◌, get_or, length, Ok, Err}
use Rattle.marks.specs.Marks.{Marks, Only}
use Rattle.numbers.specs.Numbers.{le16, Got}

-- no mark is left where all was accepted
abbrev pub Cleared : Got → List ℕ → Type 0
Cleared (Ok (v, p)) ws = Marks ws []
Cleared (Err k) ws = Unit {0}

-- n labels stand at `at`, and only their codes may be marked
pub data Walk (s : List ℕ) : ℕ → ℕ → List ℕ → Type 0 where
  done : {at : ℕ} → Walk s 0 at []
  more : {n at : ℕ} {ks : List ℕ} → at + 4 + get_or s (at + 2) 0 ≤ length s → Walk s n (at + 4 + get_or s (at + 2) 0) ks → Walk s (suc n) at (le16 s at ∷ ks)

pub record Codes (s : List ℕ) (n at : ℕ) (ws : List ℕ) : Type 0 where
  pub codes : List ℕ
  pub walk : Walk s n at codes
  pub only : Only ws codes
