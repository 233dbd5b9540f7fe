-- The names that are left end where all end. Assumes nothing.
use native.Mathlib.Omega.{arith}
use mathlib.Core.Path.{sym, ap, ◌∙◌}
use Rattle.tidy.specs.Walk.{names_from}
use Rattle.tidy.proofs.Laws.{names-none, names-on, one_fewer, step_on}
use Rattle.tidy.proofs.walk.names_end.Goals as goal

pub loop-init : goal.loop-init
loop-init c = (ap (names_from _ _) (omega arith), omega arith)

pub overflow_add-p : goal.overflow_add-p
overflow_add-p c = omega (arith, c.loop.invariant.1, c.requires, c.u8_of.ensures.1)

pub overflow_add-p-in-loop : goal.overflow_add-p-in-loop
overflow_add-p-in-loop c = omega (arith, c.loop.invariant.1, c.requires, c.u8_of.ensures.1)

pub loop-preserved : goal.loop-preserved
loop-preserved c = (
  c.loop.invariant.0 ∙ names-on _ _ _ (omega arith) ∙ rw (c.u8_of.ensures.0, one_fewer c.args.count c.loop.counter, step_on c.loop.p _ 2),
  omega (arith, c.loop.invariant.1, c.u8_of.ensures.1),
)

pub returns : goal.returns
returns c = sym (c.loop.invariant.0 ∙ names-none _ _ _ (omega arith))
