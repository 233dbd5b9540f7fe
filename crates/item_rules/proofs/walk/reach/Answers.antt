-- What is left stands and ends as all do. Assumes nothing.
use native.Mathlib.Omega.{arith}
use Rattle.std.specs.Prelude.{◌-◌, ◌+◌, ◌≡◌}
use mathlib.Core.Path.{refl, sym, ◌∙◌}
use Rattle.item_rules.proofs.Walks.{reach-on, reach-inside, reach-out, reach-done, reached_out, reached_all}
use Rattle.item_rules.proofs.walk.reach.Goals as goal

pub loop-init : goal.loop-init
loop-init c = let e : c.args.place.left - 0 ≡ c.args.place.left = omega arith in rw e (record { stand = refl; end = refl })

pub next_at-at-requires : goal.next_at-at-requires
next_at-at-requires c = reach-inside _ _ _ _ c.loop.invariant (sym c.lies.ensures ∙ c.if-not-lies.false)

pub loop-preserved : goal.loop-preserved
loop-preserved c =
    let e : c.args.place.left - c.loop.counter - 1 ≡ c.args.place.left - (c.loop.counter + 1) = omega arith in
    rw e at (reach-on _ _ _ _ c.loop.invariant (omega arith) (sym c.lies.ensures ∙ c.if-not-lies.false) c.next_at-at.ensures)

pub returns-then-not-lies : goal.returns-then-not-lies
returns-then-not-lies c = reached_out _ _ _ _ (reach-out _ _ _ _ c.loop.invariant (omega arith) (sym c.lies.ensures ∙ c.if-not-lies.true))

pub returns : goal.returns
returns c = reached_all _ _ _ _ (reach-done _ _ _ _ c.loop.invariant (omega arith))
