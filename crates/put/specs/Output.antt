-- Bytes stored in a part of a list.
-- Assumes nothing.
use Rattle.std.specs.Prelude.{ℕ, ◌+◌, ◌≤◌, ◌≡◌, cond, List, ◌++◌, length, take, drop, leb}

-- bs stored in o from place `at` on; the rest of o as it was
unfoldable pub put : ℕ → List ℕ → List ℕ → List ℕ
put at bs o = take at o ++ (bs ++ drop (at + length bs) o)

-- there is room in o for bs from `at` on
pub record RoomFor (at : ℕ) (bs o : List ℕ) : Type 0 where
  pub fits : at + length bs ≤ length o

-- o' is o with bs stored from `at`, where there is room for it, and r is the place after it
pub record Wrote (at : ℕ) (bs o o' : List ℕ) (r : ℕ) : Type 0 where
  pub room : at + length bs ≤ length o
  pub next : r ≡ at + length bs
  pub bytes : o' ≡ put at bs o

-- o' is o with bs stored at its front, n the number of bytes
pub record Filled (bs o o' : List ℕ) (n : ℕ) : Type 0 where
  pub room : length bs ≤ length o
  pub count : n ≡ length bs
  pub bytes : o' ≡ bs ++ drop (length bs) o

-- where there is room in o for bs from `at` on, o' is o with bs stored there and r is the place after it; else o' is o and r is `at`
pub record Stored (at : ℕ) (bs o o' : List ℕ) (r : ℕ) : Type 0 where
  pub next : r ≡ cond (leb (at + length bs) (length o)) (at + length bs) at
  pub bytes : o' ≡ cond (leb (at + length bs) (length o)) (put at bs o) o
