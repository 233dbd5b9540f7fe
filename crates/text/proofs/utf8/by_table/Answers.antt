-- `by_table` meets its contract: the two tables follow the rule, which one computed test shows over all 256 bytes.
-- Assumes nothing.
use mathlib.Core.Path.{refl}
use Rattle.text.proofs.States.{rule}
use borrow.Author.Rules.{rules}
use Rattle.text.proofs.utf8.by_table.Goals as goal

pub walk-requires : goal.walk-requires
walk-requires c = record { rule = rule _ _ refl tt; from_in_bounds = search rules }
