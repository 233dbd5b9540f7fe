-- What the functions over a whole layout go by. Assumes nothing.
use Rattle.std.specs.Prelude.{ℕ, ◌≡◌, List}
use Rattle.codec.specs.Codec.{Res, ok, refuse}
use Rattle.layout.specs.Layout.{Layout, from_layout}
use Rattle.layout.specs.LayoutOf.{layout_of}
use Rattle.rules.specs.Rules.{rules_of}

-- the layout in s is accepted
pub record Accepted (s : List ℕ) : Type 0 where
  pub tree : Layout
  pub next : ℕ
  pub is : layout_of s ≡ ok tree next

-- the rules of what was read
abbrev pub rules_in : List ℕ → ℕ → Res Layout → ℕ
rules_in sheet width (ok t j) = rules_of sheet width (from_layout t).0
rules_in sheet width (refuse k) = 0
