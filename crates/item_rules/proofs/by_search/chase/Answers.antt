-- The invariant: the chase so far. Assumes nothing.
use Prim.Native.Nat.{zero-le}
use native.Mathlib.Omega.{arith}
use Rattle.item_rules.proofs.Search.{ended, reach-past}
use Rattle.item_rules.specs.Search.{begun, on}
use Rattle.item_rules.proofs.by_search.chase.Goals as goal

pub loop-cursor-init : goal.loop-cursor-init
loop-cursor-init c = (zero-le, omega arith, begun, record { room = c.requires.in_slice; has = λ a b h. h })

pub seek_on-requires : goal.seek_on-requires
seek_on-requires c = let pre = c.requires in record { in_slice = pre.in_slice; part_of = c.loop-cursor.invariant.3; proper = pre.proper }

pub returns-in_default : goal.returns-in_default
returns-in_default c = ended _ _ c.loop-cursor.invariant.2 (rw c.in_default.is at c.in_ok-turn.ensures)

pub overflow_add-used : goal.overflow_add-used
overflow_add-used c = let inv = c.loop-cursor.invariant in omega (arith, inv.0, inv.1)

pub loop-cursor-smaller : goal.loop-cursor-smaller
loop-cursor-smaller c = let past = reach-past _ c.requires.proper (rw c.in-Some.is at c.in_ok-turn.ensures).has in omega arith

pub loop-cursor-preserved : goal.loop-cursor-preserved
loop-cursor-preserved c =
    let found = rw c.in-Some.is at c.in_ok-turn.ensures in
    let past = reach-past _ c.requires.proper found.has in
    (omega arith, found.small, on c.loop-cursor.invariant.2 found.has, found.within)

pub returns : goal.returns
returns c =
    let here = c.loop-cursor-test.false in
    ended _ _ c.loop-cursor.invariant.2 (rw here (c.requires.none (omega (arith, here, c.loop-cursor.invariant.1))))
