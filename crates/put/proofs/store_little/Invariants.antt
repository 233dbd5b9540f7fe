-- The invariant: what is left to store.
-- Assumes nothing.
use Rattle.codec.specs.Codec.{little}
use Rattle.put.specs.OutputLaws.{Left, left-start, left_step, left-room, left-done}
use Rattle.put.proofs.StoreLaws.{little-next, little-none}
use borrow.Author.Rules.{rules}
use Rattle.put.proofs.store_little.Given as goal

abbrev pub invariant-loop-todo : goal.invariant-loop-todo
invariant-loop-todo l = Left l.at (little l.w l.v) l.initial.out l.a (little l.todo l.x) l.out

abbrev pub decreases-loop-todo : goal.decreases-loop-todo
decreases-loop-todo l = l.todo
