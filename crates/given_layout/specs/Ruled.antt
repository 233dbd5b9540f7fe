-- A layout given with a symbol width: what reading it into a table answers and leaves. Assumes nothing.
use Rattle.std.specs.Prelude.{ℕ, ◌/◌, ◌≡◌, List, length}
use Rattle.layout.specs.Answers.{Answer, judge, leave}
use Rattle.rules.specs.Rules.{ruled_of}

-- the layout s with symbol width w, ruled on by the sheet, read into the table t: 13, the layout, the rules, 3
pub record Ruled (s : List ℕ) (w : ℕ) (sheet t t' : List ℕ) (r : Answer) : Type 0 where
  pub is : r ≡ judge (length t / 9) (ruled_of sheet w s)
  pub leaves : t' ≡ leave t (ruled_of sheet w s)
