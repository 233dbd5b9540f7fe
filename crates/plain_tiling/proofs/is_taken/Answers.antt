-- What is left of the places says what all say. Assumes nothing.
use native.Mathlib.Omega.{arith}
use mathlib.Core.Path.{refl, sym, ◌∙◌}
use Rattle.plain_tiling.proofs.Loops.{taken_owned, taken-on, taken-end}
use Rattle.plain_tiling.proofs.is_taken.Goals as goal

pub loop-p-init : goal.loop-p-init
loop-p-init c = refl

pub bounds-owners-p : goal.bounds-owners-p
bounds-owners-p c = omega (arith, c.min-end.ensures, c.loop-p-test.true)

pub returns-then-owners-p-ne0 : goal.returns-then-owners-p-ne0
returns-then-owners-p-ne0 c = sym (c.loop-p.invariant ∙ taken_owned _ _ _ (omega (arith, c.min-end.ensures, c.loop-p-test.true)) c.if-owners-p-ne0.true)

pub loop-p-preserved : goal.loop-p-preserved
loop-p-preserved c = c.loop-p.invariant ∙ taken-on _ _ _ (omega (arith, c.min-end.ensures, c.loop-p-test.true)) c.if-owners-p-ne0.false

pub returns : goal.returns
returns c = sym (c.loop-p.invariant ∙ taken-end _ _ _ (omega (arith, c.min-end.ensures, c.loop-p-test.false)))
