-- An extension goes on from the extensions, an entry of the base from the base. Assumes nothing.
use mathlib.Core.Path.{sym, ◌∙◌}
use Rattle.item_rules.proofs.InOrder.{onward_past, onward_base}
use Rattle.item_rules.proofs.sequence.onward.Goals as goal

pub returns-then-x : goal.returns-then-x
returns-then-x c = let x = c.extent_of-x.ensures in onward_past _ _ _ _ x.off x.end (sym x.other ∙ c.if-x.true)

pub returns : goal.returns
returns c = let x = c.extent_of-x.ensures in onward_base _ _ _ _ x.off x.end (sym x.other ∙ c.if-x.false)
