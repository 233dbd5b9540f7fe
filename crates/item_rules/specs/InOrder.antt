-- Entries whose base side and whose extensions stand in order. Assumes nothing.
use Rattle.std.specs.Prelude.{ℕ, ◌≡◌, Bool, true, false, List, [], ◌∷◌}
use Rattle.plain_tiling.specs.Tile.{Span}
use Rattle.item_rules.specs.declared.Course.{Course}
use Rattle.item_rules.specs.Rules.{spans}

-- from a on each span starts where the one before it ends, and the last ends at b
abbrev pub InOrder : ℕ → List Span → ℕ → Type 0
InOrder a [] b = a ≡ b
InOrder a (s ∷ ss) b = (s.0 ≡ a) × InOrder s.1 ss b

-- the entries of the base stand in order from `cursor` to `end`, and the extensions from `beyond` to some place
pub record InTurn (isRecord : Bool) (base cursor beyond : ℕ) (es : List (List ℕ)) (end : ℕ) : Type 0 where
  pub low : InOrder cursor (spans isRecord base false es) end
  pub last : ℕ
  pub high : InOrder beyond (spans isRecord base true es) last

-- r is the course after the entry e: in order only where `so` was, and what goes on in order from r goes on from `so` with e before it
pub record Onward (isRecord : Bool) (base : ℕ) (e : List ℕ) (so r : Course) : Type 0 where
  pub held : r.in_order ≡ true → so.in_order ≡ true
  pub more : r.in_order ≡ true → (es : List (List ℕ)) (end : ℕ) → InTurn isRecord base r.cursor r.beyond es end
      → InTurn isRecord base so.cursor so.beyond (e ∷ es) end
