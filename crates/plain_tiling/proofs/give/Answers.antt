-- What is left of the places says what all say. Assumes nothing.
use native.Mathlib.Omega.{arith}
use mathlib.Core.Path.{refl, sym, ◌∙◌}
use Rattle.plain_tiling.proofs.Loops.{paint-on, paint-end}
use Rattle.plain_tiling.proofs.give.Goals as goal

pub loop-p-init : goal.loop-p-init
loop-p-init c = refl

pub bounds-owners-p : goal.bounds-owners-p
bounds-owners-p c = omega (arith, c.min-end.ensures, c.loop-p-test.true, c.loop-p.auto.owners)

pub loop-p-preserved : goal.loop-p-preserved
loop-p-preserved c = c.loop-p.invariant ∙ paint-on _ _ _ _ (omega (arith, c.min-end.ensures, c.loop-p-test.true))

pub returns : goal.returns
returns c = sym (c.loop-p.invariant ∙ paint-end _ _ _ _ (omega (arith, c.min-end.ensures, c.loop-p-test.false, c.loop-p.auto.owners)))
