-- The invariant: what is counted, and what is left to count, give the same.
-- Assumes nothing.
use native.Mathlib.Omega.{arith}
use Rattle.columns_check.proofs.WalkLaws.{heads-more, heads-none}
use Rattle.columns_check.proofs.rows.heads.Goals as goal

pub loop-r-init : goal.loop-r-init
loop-r-init c = (omega arith, omega arith)

pub loop-r-preserved : goal.loop-r-preserved
loop-r-preserved c =
    let args = c.args in
    let more = heads-more args.table.now c.loop-r.r args.end c.loop-r-test.true in
    (omega (arith, c.head-m.ensures.1), omega (arith, c.head-m.ensures.0, more, c.loop-r.invariant.1))

pub returns : goal.returns
returns c =
    let args = c.args in
    omega (arith, heads-none args.table.now c.loop-r.r args.end c.loop-r-test.false, c.loop-r.invariant.1)
