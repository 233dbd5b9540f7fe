-- What is left of the places says what all say. Assumes nothing.
use native.Mathlib.Omega.{arith}
use Rattle.std.specs.Prelude.{◌≡◌}
use mathlib.Core.Path.{refl, sym, ◌∙◌}
use Rattle.plain_tiling.proofs.Loops.{reach-on, reach_here, reach-end}
use Rattle.plain_tiling.proofs.walk.Goals as goal

pub loop-p-init : goal.loop-p-init
loop-p-init c = (refl, omega arith)

pub bounds-owners-p : goal.bounds-owners-p
bounds-owners-p c = omega (arith, c.min-stop.ensures, c.loop-p-test.true)

pub returns-then-owners-p-eq0 : goal.returns-then-owners-p-eq0
returns-then-owners-p-eq0 c = sym (c.loop-p.invariant.0 ∙ reach_here _ _ _ (omega (arith, c.min-stop.ensures, c.loop-p-test.true)) c.if-owners-p-eq0.true)

pub loop-p-preserved : goal.loop-p-preserved
loop-p-preserved c = (c.loop-p.invariant.0 ∙ reach-on _ _ _ (omega (arith, c.min-stop.ensures, c.loop-p-test.true)) c.if-owners-p-eq0.false, omega (arith, c.loop-p-test.true))

pub returns : goal.returns
returns c =
    let e : c.max.result ≡ c.loop-p.p = omega (arith, c.max.ensures, c.loop-p.invariant.1, c.loop-p.auto.p, c.loop-p-test.false) in
    e ∙ sym (c.loop-p.invariant.0 ∙ reach-end _ _ _ (omega (arith, c.min-stop.ensures, c.loop-p-test.false)))
