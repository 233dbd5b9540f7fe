-- The invariant: the count so far and what is left make the count of the side. Assumes nothing.
use Rattle.item_rules.proofs.Loops.{counting, count-go, count-end}
use native.Mathlib.Omega.{arith}
use Rattle.item_rules.proofs.by_search.count.Goals as goal

pub loop-init : goal.loop-init
loop-init c = (counting _ _ _ _ _ _ c.requires, omega arith)

pub entry_at-e-requires : goal.entry_at-e-requires
entry_at-e-requires c = record { in_slice = c.loop.invariant.0.room; count_nonzero = (omega (arith, c.loop.invariant.1)) }

pub rest-left-requires : goal.rest-left-requires
rest-left-requires c = ((omega (arith, c.loop.invariant.1)), c.loop.invariant.0.room.small)

pub loop-preserved : goal.loop-preserved
loop-preserved c = rw c.rest-left.ensures (count-go _ _ _ _ _ c.loop.invariant.0 (omega (arith, c.loop.invariant.1)) c.entry_at-e.ensures c.on_side-k.ensures.0 c.on_side-k.ensures.1, omega (arith, c.loop.invariant.1))

pub returns : goal.returns
returns c = count-end _ _ _ _ _ c.loop.invariant.0 (omega (arith, c.loop.invariant.1))
