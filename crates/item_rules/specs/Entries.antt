-- The entries of a sequence where they lie: in a layout's bytes, D apart, or in the rows of a table, nine numbers apart.
-- Assumes nothing.
use Rattle.std.specs.Prelude.{ℕ, zero, suc, ◌+◌, ◌-◌, ◌*◌, ◌≤◌, ◌<◌, Bool, cond, List, [], ◌∷◌, length}
use Rattle.item_rules.specs.declared.Source.{Source}
use Rattle.entry.specs.Entry.{entry_bytes, row_bytes}

-- the entry at place a of the layout l or of the rows t
unfoldable pub entry_at : List ℕ → List ℕ → Bool → ℕ → List ℕ
entry_at l t rows a = cond rows (row_bytes t a) (entry_bytes l a)

-- the n entries from a on, d apart
unfoldable pub entries_at : List ℕ → List ℕ → Bool → ℕ → ℕ → ℕ → List (List ℕ)
entries_at l t rows d a zero = []
entries_at l t rows d a (suc n) = entry_at l t rows a ∷ entries_at l t rows d (a + d) n

unfoldable pub entry_of : List ℕ → List ℕ → Source → List ℕ
entry_of l t s = entry_at l t s.rows s.at

unfoldable pub entries_of : List ℕ → List ℕ → Source → List (List ℕ)
entries_of l t s = entries_at l t s.rows s.step s.at s.count

abbrev pub rest_of : Source → Source
rest_of s = record { rows = s.rows; step = s.step; at = s.at + s.step; count = s.count - 1 }

-- a source within its slice
pub record InSlice (l t : List ℕ) (s : Source) : Type 0 where
  pub least : cond s.rows 9 11 ≤ s.step
  pub inside : s.at + s.step * s.count ≤ cond s.rows (length t) (length l)
  pub small : s.at + s.step * s.count < 18446744073709551616
