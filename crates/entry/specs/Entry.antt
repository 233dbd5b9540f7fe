-- A field entry's first eleven bytes: id, offset, size (u16 each), type, flags, def index (u16), scale. Assumes nothing.
use Rattle.std.specs.Prelude.{ℕ, ◌+◌, ◌*◌, ◌/◌, ◌%◌, List, [], ◌∷◌, map, get_or}

-- the eleven bytes from `at` on, 0 for each byte past the end
abbrev pub entry_bytes : List ℕ → ℕ → List ℕ
entry_bytes s at =
    get_or s at 0 ∷ get_or s (at + 1) 0 ∷ get_or s (at + 2) 0 ∷ get_or s (at + 3) 0 ∷ get_or s (at + 4) 0 ∷ get_or s (at + 5) 0 ∷ get_or s (at + 6) 0 ∷ get_or s (at + 7) 0 ∷ get_or s (at + 8) 0 ∷ get_or s (at + 9) 0 ∷ get_or s (at + 10) 0 ∷ []

-- the numbers of a field as an entry's eleven bytes, each modulo its width on the wire
unfoldable pub cut_bytes : ℕ → ℕ → ℕ → ℕ → ℕ → ℕ → ℕ → List ℕ
cut_bytes id offset size type flags def scale =
    map (λ (x : ℕ). x % 256) (id ∷ id / 256 ∷ offset ∷ offset / 256 ∷ size ∷ size / 256 ∷ type ∷ flags ∷ def ∷ def / 256 ∷ scale ∷ [])

-- those of the field row at `at` of a table, 0 for each number past the end
unfoldable pub row_bytes : List ℕ → ℕ → List ℕ
row_bytes t at =
    cut_bytes (get_or t (at + 1) 0) (get_or t (at + 2) 0) (get_or t (at + 3) 0) (get_or t (at + 4) 0) (get_or t (at + 5) 0) (get_or t (at + 6) 0) (get_or t (at + 7) 0)

-- the numbers of the eleven bytes
abbrev pub field_numbers : List ℕ → List ℕ
field_numbers e =
    (get_or e 0 0 + 256 * get_or e 1 0) ∷ (get_or e 2 0 + 256 * get_or e 3 0) ∷ (get_or e 4 0 + 256 * get_or e 5 0) ∷ get_or e 6 0 ∷ get_or e 7 0 ∷ (get_or e 8 0 + 256 * get_or e 9 0) ∷ get_or e 10 0 ∷ []
