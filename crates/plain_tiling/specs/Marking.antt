-- Marking spans one after the other: what has been marked so far, what is left, and what the marks say in the end.
-- Assumes nothing.
use Rattle.std.specs.Prelude.{ℕ, ◌+◌, ◌-◌, ◌≤◌, ◌<◌, ◌≡◌, Bool, false, cond, List, [], ◌∷◌, eqb}
use Rattle.plain_tiling.specs.Tile.{Span}
use Rattle.plain_tiling.specs.Plain.{blank, overlap, marks, furthest, by_marks}
use Rattle.plain_tiling.specs.Places.{Enough, Between}
use Rattle.plain_tiling.specs.Owners.{Placed}

-- how many places have an owner
unfoldable pub held : List ℕ → ℕ
held [] = 0
held (m ∷ ms) = cond (eqb m 0) 0 1 + held ms

-- of n marks: whether two spans overlap, and if not, the marks of all and where the furthest ends; marked are only places from c to the top
pub record Marked (n c : ℕ) (ss : List Span) (ms : List ℕ) (clash : Bool) (top : ℕ) : Type 0 where
  pub enough : Enough n c ss
  pub most : n ≤ 65536
  pub clash-is : clash ≡ overlap (blank n) 0 ss
  pub all : clash ≡ false → ms ≡ marks (blank n) 0 ss
  pub far : clash ≡ false → top ≡ furthest c ss
  pub only : Between n c top ms
  pub up : c ≤ top
  pub small : top < n

-- the marks so far, of k spans with their furthest end at top; the spans left go on from them as all go from none
pub record Marking (n c : ℕ) (ss left : List Span) (ms : List ℕ) (k top : ℕ) : Type 0 where
  pub enough : Enough n c ss
  pub most : n ≤ 65536
  pub placed : Placed c (n - 1) left
  pub clash : overlap (blank n) 0 ss ≡ overlap ms k left
  pub all : marks (blank n) 0 ss ≡ marks ms k left
  pub far : furthest c ss ≡ furthest top left
  pub only : Between n c top ms
  pub up : c ≤ top
  pub small : top < n
  pub few : k ≤ held ms

-- where the spans end, if they lie end to end, else 65536
unfoldable pub end_by_marks : ℕ → List Span → ℕ
end_by_marks c ss = by_marks 65536 65536 (λ x. x) c ss
