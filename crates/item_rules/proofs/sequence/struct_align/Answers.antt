-- The invariant: the largest so far and the entries left have the largest of all. Assumes nothing.
use Rattle.item_rules.proofs.Loops.{aligning, align-go, align-end}
use native.Mathlib.Omega.{arith}
use Rattle.item_rules.proofs.sequence.struct_align.Goals as goal

pub loop-init : goal.loop-init
loop-init c = (aligning _ _ _ _ c.requires, omega arith)

pub entry_at-e-requires : goal.entry_at-e-requires
entry_at-e-requires c = record { in_slice = c.loop.invariant.0.room; count_nonzero = (omega (arith, c.loop.invariant.1)) }

pub rest-left-requires : goal.rest-left-requires
rest-left-requires c = ((omega (arith, c.loop.invariant.1)), c.loop.invariant.0.room.small)

pub loop-preserved : goal.loop-preserved
loop-preserved c = rw c.rest-left.ensures (align-go _ _ _ c.loop.invariant.0 (omega (arith, c.loop.invariant.1)) c.entry_at-e.ensures c.class_of-c.ensures.align c.larger-a.ensures, omega (arith, c.loop.invariant.1))

pub returns : goal.returns
returns c = align-end _ _ _ c.loop.invariant.0 (omega (arith, c.loop.invariant.1))
