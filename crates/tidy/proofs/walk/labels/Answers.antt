-- The labels that are left give what all give. Assumes nothing.
use native.Mathlib.Omega.{arith}
use mathlib.Core.Path.{sym, ap, ◌∙◌}
use Rattle.tidy.specs.Walk.{labels_from}
use Rattle.tidy.proofs.Laws.{labels-end, labels-on, labels-stop, one_fewer, step_on}
use Rattle.tidy.proofs.walk.labels.Goals as goal

pub loop-init : goal.loop-init
loop-init c = (ap (labels_from _ _ _) (omega arith), omega arith)

pub returns-then-code-least : goal.returns-then-code-least
returns-then-code-least c = c.refuse.ensures ∙ sym (c.loop.invariant.0 ∙ labels-stop _ _ _ _ (omega arith) (omega (arith, c.u16_of-code.ensures.0, c.if-code-least.true)))

pub overflow_add-least : goal.overflow_add-least
overflow_add-least c = omega (arith, c.u16_of-code.ensures.1)

pub overflow_add-p : goal.overflow_add-p
overflow_add-p c = omega (arith, c.loop.invariant.1, c.requires)

pub overflow_add-p-in-loop : goal.overflow_add-p-in-loop
overflow_add-p-in-loop c = omega (arith, c.loop.invariant.1, c.requires, c.u8_of.ensures.1)

pub overflow_add-p-in-loop-2 : goal.overflow_add-p-in-loop-2
overflow_add-p-in-loop-2 c = omega (arith, c.loop.invariant.1, c.requires, c.u8_of.ensures.1)

pub loop-preserved : goal.loop-preserved
loop-preserved c = (
  c.loop.invariant.0 ∙ labels-on _ _ _ _ (omega arith) (omega (arith, c.u16_of-code.ensures.0, c.if-code-least.false)) ∙ rw (c.u8_of.ensures.0, c.u16_of-code.ensures.0, one_fewer c.args.count c.loop.counter, step_on c.loop.p 4 _),
  omega (arith, c.loop.invariant.1, c.u8_of.ensures.1),
)

pub returns : goal.returns
returns c = sym (c.loop.invariant.0 ∙ labels-end _ _ _ _ (omega arith))
