-- The invariant: what the search finds from here on is what it finds in all. Assumes nothing.
use Rattle.item_rules.proofs.Loops.{seeking, seek_room, seek_miss, seek_hit, seek_end}
use native.Mathlib.Omega.{arith}
use mathlib.Core.Path.{sym, ◌∙◌}
use Rattle.item_rules.proofs.by_search.seek.Goals as goal

pub loop-init : goal.loop-init
loop-init c = (seeking _ _ _ _ _ _ _ c.requires, omega arith)

pub entry_at-e-requires : goal.entry_at-e-requires
entry_at-e-requires c = record { in_slice = seek_room _ _ _ _ _ c.loop.invariant.0; count_nonzero = (omega (arith, c.loop.invariant.1)) }

pub rest-requires : goal.rest-requires
rest-requires c = ((omega (arith, c.loop.invariant.1)), (seek_room _ _ _ _ _ c.loop.invariant.0).small)

pub returns-then-starts_here : goal.returns-then-starts_here
returns-then-starts_here c = seek_hit _ _ _ _ _ c.loop.invariant.0 (omega (arith, c.loop.invariant.1)) c.entry_at-e.ensures (sym c.starts_here.ensures ∙ c.if-starts_here.true) c.extent_of-x.ensures.end c.extent_of-x.ensures.end_low c.rest.ensures

pub rest-left-requires : goal.rest-left-requires
rest-left-requires c = ((omega (arith, c.loop.invariant.1)), (seek_room _ _ _ _ _ c.loop.invariant.0).small)

pub loop-preserved : goal.loop-preserved
loop-preserved c = rw c.rest-left.ensures (seek_miss _ _ _ _ _ c.loop.invariant.0 (omega (arith, c.loop.invariant.1)) c.entry_at-e.ensures (sym c.starts_here.ensures ∙ c.if-starts_here.false), omega (arith, c.loop.invariant.1))

pub returns : goal.returns
returns c = seek_end _ _ _ _ _ c.loop.invariant.0 (omega (arith, c.loop.invariant.1))
