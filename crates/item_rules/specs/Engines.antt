-- What the two engines for 81 to 83 go by, and what it is for entries to tile. Assumes nothing.
use Rattle.std.specs.Prelude.{ℕ, ◌≤◌, ◌<◌, ◌≡◌, Bool, true, false, List, [], ◌∷◌}
use Rattle.fields.specs.Sheet.{end_of}
use Rattle.plain_tiling.specs.Plain.{base_by_marks, ext_by_marks}
use Rattle.plain_tiling.specs.Owners.{owners, Tiled, Placed}
use Rattle.plain_tiling.specs.Places.{Enough}
use Rattle.item_rules.specs.Rules.{Seq, first, spans, fields_fault}

-- of entries that passed 71 to 80, those of the base lie in 0 to base and the extensions in base to 65535
pub record Passed (isRecord : Bool) (base : ℕ) (es : List (List ℕ)) : Type 0 where
  pub small : base ≤ 65535
  pub low : Placed 0 base (spans isRecord base false es)
  pub high : Placed base 65535 (spans isRecord base true es)

-- n marks are enough for both sides
pub record Markable (n : ℕ) (isRecord : Bool) (base : ℕ) (es : List (List ℕ)) : Type 0 where
  pub low : Enough n 0 (spans isRecord base false es)
  pub high : Enough n base (spans isRecord base true es)

-- every entry ends below n
abbrev pub EndBelow : ℕ → List (List ℕ) → Type 0
EndBelow n [] = Unit {0}
EndBelow n (e ∷ es) = (end_of e < n) × EndBelow n es

-- what it is for the entries of a record or a struct to tile: every place below the base is in exactly one base entry, and the
-- extensions go on from the base to some place without gap or overlap
pub record Tiles (isRecord : Bool) (base : ℕ) (es : List (List ℕ)) : Type 0 where
  pub low : (p : ℕ) → p < base → owners (spans isRecord base false es) p ≡ 1
  pub end : ℕ
  pub high : Tiled base end (spans isRecord base true es)

-- 71 to 83 with the marks for 81 to 83
module _ (sheet : List ℕ) (width labels : ℕ) (aligns : List ℕ) where
  unfoldable pub seq_by_marks : Bool → Seq → ℕ
  seq_by_marks isRecord q =
      first (fields_fault sheet width labels aligns isRecord q.base [] q.entries)
      (first (base_by_marks q.base (spans isRecord q.base false q.entries)) (ext_by_marks q.base (spans isRecord q.base true q.entries)))
