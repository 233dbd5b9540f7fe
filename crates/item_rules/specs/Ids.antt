-- Which ids of the fields of a record or struct are marked.
-- Assumes nothing.
use Rattle.std.specs.Prelude.{ℕ, ◌≡◌, cond, List, [], map}
use Rattle.marks.specs.Marks.{Marks, with_mark}
use Rattle.fields.specs.Sheet.{id_of, is_padding}

abbrev pub ids_of : List (List ℕ) → List ℕ
ids_of es = map id_of es

-- the marks with the entry's id, unless it is padding
unfoldable pub noted_marks : List ℕ → List ℕ → List ℕ → List ℕ
noted_marks sheet ws e = cond (is_padding sheet e) ws (with_mark ws (id_of e))

-- after a verdict of 0 nothing is marked
abbrev pub Clean : ℕ → List ℕ → Type 0
Clean r ws = r ≡ 0 → Marks ws []
