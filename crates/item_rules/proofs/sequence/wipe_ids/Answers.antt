-- The invariant: only ids of the entries left are marked. Assumes nothing.
use Rattle.item_rules.proofs.Loops.{wipe_go, wipe_end}
use native.Mathlib.Omega.{arith}
use borrow.Author.Rules.{rules}
use Rattle.item_rules.proofs.sequence.wipe_ids.Goals as goal

pub loop-init : goal.loop-init
loop-init c = (record { room = c.requires.in_slice; only = c.requires.only }, omega arith)

pub entry_at-e-requires : goal.entry_at-e-requires
entry_at-e-requires c = record { in_slice = c.loop.invariant.0.room; count_nonzero = (omega (arith, c.loop.invariant.1)) }

pub rest-left-requires : goal.rest-left-requires
rest-left-requires c = ((omega (arith, c.loop.invariant.1)), c.loop.invariant.0.room.small)

pub loop-preserved : goal.loop-preserved
loop-preserved c = rw c.rest-left.ensures (wipe_go _ _ c.loop.invariant.0 (omega (arith, c.loop.invariant.1)) c.entry_at-e.ensures c.class_of-c.ensures.id (search rules) c.wipe.ensures, omega (arith, c.loop.invariant.1))

pub returns : goal.returns
returns c = wipe_end _ _ c.loop.invariant.0 (omega (arith, c.loop.invariant.1))
