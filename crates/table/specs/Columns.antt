-- A table by column: every first number of the rows, then every second one, and so on. Assumes nothing.
use Rattle.std.specs.Prelude.{ℕ, zero, suc, ◌+◌, ◌*◌, ◌/◌, ◌&&◌, cond, List, ◌++◌, map, length, get_or, take, drop, ltb}

-- number c of each row
abbrev pub column : ℕ → List (List ℕ) → List ℕ
column c rs = map (λ r. get_or r c 0) rs

-- k columns of height h, from column c on: the rows' numbers, and below them what the column had; what stands after the columns stays
abbrev pub columns_from : ℕ → ℕ → ℕ → List (List ℕ) → List ℕ → List ℕ
columns_from h c zero rs t = t
columns_from h c (suc k) rs t = column c rs ++ (drop (length rs) (take h t) ++ columns_from h (suc c) k rs (drop h t))

-- the rows in a table of w columns, each as high as the table can hold rows
unfoldable pub columns : ℕ → List (List ℕ) → List ℕ → List ℕ
columns w rs t = columns_from (length t / w) 0 w rs t

-- number c of row r of such a table
abbrev pub cell : ℕ → List ℕ → ℕ → ℕ → ℕ
cell w t r c = get_or t (c * (length t / w) + r) 0

-- the same of six columns for any row and column: 0 where there is none
unfoldable pub cell_of : List ℕ → ℕ → ℕ → ℕ
cell_of t r c = cond (ltb r (length t / 6) && ltb c 6) (cell 6 t r c) 0

-- number c of row r of a table whose rows of w numbers stand one after the other
abbrev pub row_cell : ℕ → List ℕ → ℕ → ℕ → ℕ
row_cell w t r c = get_or t (w * r + c) 0
