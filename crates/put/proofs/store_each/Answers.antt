-- The invariant: what is left to store.
-- Assumes nothing.
use Prim.Native.Nat.{◌-◌, ◌≤◌}
use lib.ListN.{length, drop, drop_of_length-le}
use Rattle.put.specs.OutputLaws.{Left, left-start, left_step, left-room, left-done}
use Rattle.put.proofs.StoreLaws.{drop-next}
use borrow.Author.Rules.{rules}
use Rattle.put.proofs.store_each.Goals as goal

pub loop-j-init : goal.loop-j-init
loop-j-init c = (search rules, left-start c.requires)

pub store_one-a-requires : goal.store_one-a-requires
store_one-a-requires c = left-room c.loop-j.invariant.1 _ (drop-next _ _ c.loop-j-test.true)

pub loop-j-preserved : goal.loop-j-preserved
loop-j-preserved c = (search rules, left_step c.loop-j.invariant.1 (drop-next _ _ c.loop-j-test.true) c.store_one-a.ensures)

pub shape_of-out : goal.shape_of-out
shape_of-out c = c.loop-j.invariant.1.long

pub returns : goal.returns
returns c = left-done c.loop-j.invariant.1 (drop_of_length-le _ c.loop-j-test.false)
