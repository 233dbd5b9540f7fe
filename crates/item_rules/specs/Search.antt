-- Tiling by search: from end to end, until no span starts at the cursor.
-- Assumes nothing.
use Rattle.std.specs.Prelude.{ℕ, suc, ◌+◌, ◌<◌, ◌≡◌, Bool, false, cond, List, [], ◌∷◌, eqb, Option, Some, None as Nothing}
use Rattle.fields.specs.Sheet.{off_of, past_base}
use Rattle.fields.specs.Field.{differs}
use Rattle.item_rules.specs.declared.Source.{Source}
use Rattle.item_rules.specs.declared.Hit.{Hit}
use Rattle.plain_tiling.specs.Tile.{Span}
use Rattle.item_rules.specs.Rules.{spans}
use Rattle.item_rules.specs.Entries.{entries_of, InSlice}

-- a span from c to e is there; none starts at c
pub data Has : List Span → ℕ → ℕ → Type 0 where
  here : {x : Span} {ss : List Span} {c e : ℕ} → x.0 ≡ c → x.1 ≡ e → Has (x ∷ ss) c e
  there : {x : Span} {ss : List Span} {c e : ℕ} → Has ss c e → Has (x ∷ ss) c e

abbrev pub None : List Span → ℕ → Type 0
None [] c = Unit {0}
None (s ∷ ss) c = (s.0 ≡ c → ⊥) × None ss c

-- each span ends past its start
abbrev pub Proper : List Span → Type 0
Proper [] = Unit {0}
Proper (s ∷ ss) = (s.0 < s.1) × Proper ss

-- from cursor c the chase uses u spans and ends at cursor l
pub data Chase (ss : List Span) : ℕ → ℕ → ℕ → Type 0 where
  stop : {c : ℕ} → None ss c → Chase ss c 0 c
  step : {c e u l : ℕ} → Has ss c e → Chase ss e u l → Chase ss c (suc u) l

-- the chase so far, from cursor a to c with u spans used
pub data Reached (ss : List Span) (a : ℕ) : ℕ → ℕ → Type 0 where
  begun : Reached ss a 0 a
  on : {u c e : ℕ} → Reached ss a u c → Has ss c e → Reached ss a (u + 1) e

-- the end of the first span that starts at the cursor, or 0
abbrev pub find : List Span → ℕ → ℕ
find [] c = 0
find (s ∷ ss) c = cond (eqb s.0 c) s.1 (find ss c)

-- an entry of one side that starts at the cursor; 1 for an entry of the side, else 0
unfoldable pub starts_here : Bool → ℕ → Bool → ℕ → List ℕ → Bool
starts_here isRecord base ext c e = cond (differs ext (past_base isRecord base e)) false (eqb (off_of e) c)

unfoldable pub on_side : Bool → ℕ → Bool → List ℕ → ℕ
on_side isRecord base ext e = cond (differs ext (past_base isRecord base e)) 0 1

-- what a source has, the whole has too
pub record PartOf (l t : List ℕ) (isRecord : Bool) (base : ℕ) (ext : Bool) (whole part : Source) : Type 0 where
  pub room : InSlice l t part
  pub has : (c e : ℕ) → Has (spans isRecord base ext (entries_of l t part)) c e → Has (spans isRecord base ext (entries_of l t whole)) c e

-- a span at the cursor is found: its end, and the entries after it
pub record Found (l t : List ℕ) (isRecord : Bool) (base : ℕ) (ext : Bool) (src : Source) (c : ℕ) (r : Hit) : Type 0 where
  pub has : Has (spans isRecord base ext (entries_of l t src)) c r.end
  pub small : r.end < 131072
  pub within : PartOf l t isRecord base ext src r.rest

-- what a search through a source for a span at the cursor gives: the first, or nothing
abbrev pub Sought : List ℕ → List ℕ → Bool → ℕ → Bool → Source → ℕ → Option Hit → Type 0
Sought l t isRecord base ext src c (Some r) = (r.end ≡ find (spans isRecord base ext (entries_of l t src)) c) × Found l t isRecord base ext src c r
Sought l t isRecord base ext src c Nothing = find (spans isRecord base ext (entries_of l t src)) c ≡ 0

-- the same where any span at the cursor will do
abbrev pub Hits : List ℕ → List ℕ → Bool → ℕ → Bool → Source → ℕ → Option Hit → Type 0
Hits l t isRecord base ext src c (Some r) = Found l t isRecord base ext src c r
Hits l t isRecord base ext src c Nothing = None (spans isRecord base ext (entries_of l t src)) c
