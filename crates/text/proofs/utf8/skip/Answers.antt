-- The loop keeps: all bytes passed are below 128, each run because its bits together are.
-- Assumes nothing.
use native.Mathlib.Omega.{arith}
use Rattle.text.proofs.Or.{run-below, below_join}
use borrow.Author.Rules.{rules}
use Rattle.text.proofs.utf8.skip.Goals as goal

pub loop-i-init : goal.loop-i-init
loop-i-init c = omega arith

pub returns-then-or_all-ge128 : goal.returns-then-or_all-ge128
returns-then-or_all-ge128 c =
    let inv = c.loop-i.invariant in
    record { on = inv.0; within = inv.1; low = inv.2 }

pub loop-i-preserved : goal.loop-i-preserved
loop-i-preserved c =
    let s = c.args.s.now in (
      search rules,
      search rules,
      below_join 128 s _ c.loop-i.i _ c.loop-i.invariant.2
          (run-below 7 s c.loop-i.i _ (search rules) _ c.or_all.ensures c.if-or_all-ge128.false),
    )

pub returns : goal.returns
returns c =
    let inv = c.loop-i.invariant in
    record { on = inv.0; within = inv.1; low = inv.2 }
