-- The invariant: what is left to store.
-- Assumes nothing.
use Prim.Native.Nat.{◌-◌, ◌≤◌}
use lib.ListN.{length, drop, drop_of_length-le}
use Rattle.put.specs.OutputLaws.{Left, left-start, left_step, left-room, left-done}
use Rattle.put.proofs.StoreLaws.{drop-next}
use borrow.Author.Rules.{rules}
use Rattle.put.proofs.store_each.Given as goal

abbrev pub invariant-loop-j : goal.invariant-loop-j
invariant-loop-j l = (l.j ≤ length l.src) × Left l.at l.src l.initial.out l.a (drop l.j l.src) l.out

abbrev pub decreases-loop-j : goal.decreases-loop-j
decreases-loop-j l = length l.src - l.j
