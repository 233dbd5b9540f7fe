-- What is left lies within its slice. Assumes nothing.
use native.Mathlib.Omega.{arith}
use Rattle.item_rules.proofs.Walks.{item-end, item-inside, item-step}
use Rattle.item_rules.proofs.walk.next_item.Goals as goal

pub returns-then-place-eq0 : goal.returns-then-place-eq0
returns-then-place-eq0 c = item-end _ _ _ _ c.if-place-eq0.true

pub item_at-item-requires : goal.item_at-item-requires
item_at-item-requires c = item-inside _ _ _ _ c.requires c.if-place-eq0.false

pub next_at-requires : goal.next_at-requires
next_at-requires c = item-inside _ _ _ _ c.requires c.if-place-eq0.false

pub returns : goal.returns
returns c = item-step _ _ _ _ c.requires c.if-place-eq0.false c.item_at-item.ensures.0 c.item_at-item.ensures.1 c.next_at.ensures (omega arith) (omega arith)
