-- The invariant: the codes of the labels left are the only marks. Assumes nothing.
use Rattle.codec.specs.CaseLaws.{left_all, left_next}
use native.Mathlib.Omega.{arith}
use borrow.Author.Rules.{rules}
use Rattle.layout.specs.Labels.{Codes}
use Rattle.layout.proofs.Labelling.{codes-room, codes-next, codes-end}
use Rattle.layout.proofs.labels.unmark.Goals as goal

pub loop-init : goal.loop-init
loop-init c = rw (left_all c.args.count) c.requires

pub half-code-requires : goal.half-code-requires
half-code-requires c = omega (arith, codes-room c.loop.invariant (omega (arith, c.loop-test.true)))

pub overflow_cast-code : goal.overflow_cast-code
overflow_cast-code c = omega arith

pub overflow_add-p : goal.overflow_add-p
overflow_add-p c = omega (arith, codes-room c.loop.invariant (omega (arith, c.loop-test.true)))

pub bounds-s-p : goal.bounds-s-p
bounds-s-p c = omega (arith, codes-room c.loop.invariant (omega (arith, c.loop-test.true)))

pub overflow_add-p-in-loop : goal.overflow_add-p-in-loop
overflow_add-p-in-loop c = omega (arith, codes-room c.loop.invariant (omega (arith, c.loop-test.true)))

pub overflow_add-p-in-loop-2 : goal.overflow_add-p-in-loop-2
overflow_add-p-in-loop-2 c = omega (arith, codes-room c.loop.invariant (omega (arith, c.loop-test.true)), c.wide-len.ensures)

pub loop-preserved : goal.loop-preserved
loop-preserved c =
    let half = c.half-code.ensures in
    rw (left_next c.args.count c.loop.counter, c.wide-len.ensures.0, c.wipe.ensures, half.0) (codes-next c.loop.invariant (omega (arith, c.loop-test.true)) (omega (arith, half)))

pub returns : goal.returns
returns c = codes-end c.loop.invariant (omega (arith, c.loop-test.false))
