-- The invariant: what is left to store.
-- Assumes nothing.
use Rattle.codec.specs.Codec.{little}
use Rattle.put.specs.OutputLaws.{Left, left-start, left_step, left-room, left-done}
use Rattle.put.proofs.StoreLaws.{little-next, little-none}
use borrow.Author.Rules.{rules}
use Rattle.put.proofs.store_little.Goals as goal

pub loop-todo-init : goal.loop-todo-init
loop-todo-init c = left-start c.requires

pub store_one-a-requires : goal.store_one-a-requires
store_one-a-requires c = rw c.low.ensures (left-room c.loop-todo.invariant _ (little-next _ _ c.loop-todo-test.true))

pub loop-todo-preserved : goal.loop-todo-preserved
loop-todo-preserved c = left_step c.loop-todo.invariant (little-next _ _ c.loop-todo-test.true) (rw c.low.ensures at c.store_one-a.ensures)

pub shape_of-out : goal.shape_of-out
shape_of-out c = c.loop-todo.invariant.long

pub returns : goal.returns
returns c = left-done c.loop-todo.invariant (little-none _ _ c.loop-todo-test.false)
