-- The rules over rows: they are tried as the writer tries them, then the rules of the layout that they stand for.
-- Assumes nothing.
use Rattle.std.specs.Prelude.{ℕ, Bool, List, ◌++◌}
use Rattle.layout.specs.Layout.{from_layout}
use Rattle.rows_check.specs.Tree.{tree_of}
use Rattle.rows_check.specs.Check.{fault_numbers, fault}
use Rattle.rows_check.specs.Answers.{Sized, made, unless}
use Rattle.item_rules.specs.Rules.{first, rule_numbers}
use Rattle.rules.specs.Rules.{rules_of}

-- the rules of the layout that rows stand for, whose version no rule sees
unfoldable pub rows_rules : List ℕ → ℕ → List ℕ → List ℕ → ℕ
rows_rules sheet width rows text = rules_of sheet width (from_layout (tree_of 0 rows text)).0

-- 90, for a `whole` layout 91 to 95, then the rules
unfoldable pub rows_fault : List ℕ → ℕ → Bool → List ℕ → List ℕ → ℕ
rows_fault sheet width whole rows text = first (fault whole rows text) (rows_rules sheet width rows text)

-- what refuses rows
abbrev pub row_rule_numbers : Bool → List ℕ
row_rule_numbers whole = fault_numbers whole ++ rule_numbers

-- what the rows make, or the number that refuses them
unfoldable pub ruled_rows : List ℕ → ℕ → Bool → List ℕ → List ℕ → Sized
ruled_rows sheet width whole rows text = unless (rows_fault sheet width whole rows text) (made whole rows text)
