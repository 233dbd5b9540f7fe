-- Items written one after the other.
-- Assumes nothing.
use Prim.Native.Nat.{ℕ, ◌-◌, ◌≤◌, ◌<◌}
use mathlib.Core.List.{List}
use Rattle.rows_check.specs.Sections.{many}
use Rattle.rows_check.specs.SectionLaws.{many-none, many-next}
use Rattle.put.specs.Output.{RoomFor, Wrote}
use Rattle.put.specs.OutputLaws.{Left, left_step, left-room, left-done}

module _ (next : ℕ → ℕ) (f : ℕ → List ℕ) (q k : ℕ) where
  module _ {at : ℕ} {bs₀ o₀ : List ℕ} {a : ℕ} {o : List ℕ} (l : Left at bs₀ o₀ a (many next f q k) o) where
    pub many-room : 0 < k → RoomFor a (f q) o
    many-room h = left-room l (many next f (next q) (k - 1)) (many-next next f q k h)

    pub many-step : {o' : List ℕ} {a' : ℕ} → 0 < k → Wrote a (f q) o o' a' → Left at bs₀ o₀ a' (many next f (next q) (k - 1)) o'
    many-step h w = left_step l (many-next next f q k h) w

    pub many-done : k ≤ 0 → Wrote at bs₀ o₀ o a
    many-done h = left-done l (many-none next f q k h)
