-- What it is to be the owner of a row: an interval's last number is the index of its mapping's row, and every other row's is its own index. Assumes nothing.
use Rattle.std.specs.Prelude.{ℕ, ◌+◌, ◌≤◌, ◌<◌, ◌≡◌, false, eqb}

-- row o is a mapping, and the rows after it, as many as it counts, are its intervals; `number i j` is number j of row i, of n rows: 0 its
-- kind, 3 its x, 5 its owner
pub record Owns (number : ℕ → ℕ → ℕ) (n o : ℕ) : Type 0 where
  pub mapping : number o 0 ≡ 3
  pub within : o + number o 3 < n
  pub intervals : (i : ℕ) → o < i → i ≤ o + number o 3 → (number i 0 ≡ 4) × (number i 5 ≡ o)

-- row i is one of its owner's, which stands before it
pub record Owned (number : ℕ → ℕ → ℕ) (n i : ℕ) : Type 0 where
  pub owner : Owns number n (number i 5)
  pub before : number i 5 < i
  pub counted : i ≤ number i 5 + number (number i 5) 3

-- whose row i is, by its kind
pub record Whose (number : ℕ → ℕ → ℕ) (n i : ℕ) : Type 0 where
  pub mapping : number i 0 ≡ 3 → Owns number n i
  pub interval : number i 0 ≡ 4 → Owned number n i
  pub other : eqb (number i 0) 4 ≡ false → number i 5 ≡ i
