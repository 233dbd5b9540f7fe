-- `by_sixteen` meets its contract. The loop keeps: `end` is no shorter than the length without zeros.
-- Assumes nothing.
use native.Mathlib.Omega.{arith}
use borrow.Author.Rules.{rules}
use Rattle.text.specs.TrimLaws.{trimmed-le}
use Rattle.text.proofs.Nears.{not-kept, some-kept}
use Rattle.text.proofs.trim.by_sixteen.Goals as goal

pub loop-end-init : goal.loop-end-init
loop-end-init c = (search rules, trimmed-le c.args.s.now)

pub returns-then-or_all-ne0 : goal.returns-then-or_all-ne0
returns-then-or_all-ne0 c = record {
  least = c.loop-end.invariant.1;
  within = c.loop-end.invariant.0;
  near = omega (arith, some-kept c.args.s.now c.loop-end.end 16 _ c.loop-end.invariant.1 c.loop-end.invariant.0 (search rules) c.or_all.ensures c.if-or_all-ne0.true);
}

pub loop-end-preserved : goal.loop-end-preserved
loop-end-preserved c = (search rules, not-kept c.args.s.now c.loop-end.end 16 _ c.loop-end.invariant.1 c.loop-end.invariant.0 (search rules) c.or_all.ensures c.if-or_all-ne0.false)

pub returns : goal.returns
returns c = record { least = c.loop-end.invariant.1; within = c.loop-end.invariant.0; near = omega arith }
