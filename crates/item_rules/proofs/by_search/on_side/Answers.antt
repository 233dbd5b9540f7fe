-- 1 for an entry of the side, 0 for one of the other. Assumes nothing.
use Rattle.item_rules.proofs.Loops.{side_other, side_this}
use lib.Dec.{lit≤}
use mathlib.Core.Path.{sym, ◌∙◌}
use Rattle.item_rules.proofs.by_search.on_side.Goals as goal

pub returns-then-x : goal.returns-then-x
returns-then-x c = (side_other _ _ _ _ (sym c.extent_of-x.ensures.other ∙ c.if-x.true), lit≤ tt)

pub returns : goal.returns
returns c = (side_this _ _ _ _ (sym c.extent_of-x.ensures.other ∙ c.if-x.false), lit≤ tt)
