-- The invariant: where the entries left all end below n, all do. Assumes nothing.
use mathlib.Core.Path.{sym}
use native.Mathlib.Omega.{arith}
use Rattle.item_rules.specs.EngineLaws.{markable_all, markable_below}
use Rattle.codec.specs.CaseLaws.{no_true}
use Rattle.item_rules.proofs.Painting.{ending_on, ending_end}
use Rattle.item_rules.proofs.by_marks.too_few.Goals as goal

pub returns-then-n-eq65536 : goal.returns-then-n-eq65536
returns-then-n-eq65536 c = record { markable = λ _. markable_all c.requires.passed c.if-n-eq65536.true; below_65536 = λ e. absurd (no_true (sym e)) }

pub returns-then-n-frame : goal.returns-then-n-frame
returns-then-n-frame c = record { markable = λ e. absurd (no_true e); below_65536 = λ _. c.if-n-eq65536.false }

pub loop-init : goal.loop-init
loop-init c = (record { room = c.requires.in_slice; all = λ h. h }, omega arith)

pub entry_at-e-requires : goal.entry_at-e-requires
entry_at-e-requires c = record { in_slice = c.loop.invariant.0.room; count_nonzero = (omega (arith, c.loop.invariant.1)) }

pub returns-then-n-x : goal.returns-then-n-x
returns-then-n-x c = record { markable = λ e. absurd (no_true e); below_65536 = λ _. c.if-n-eq65536.false }

pub rest-left-requires : goal.rest-left-requires
rest-left-requires c = ((omega (arith, c.loop.invariant.1)), c.loop.invariant.0.room.small)

pub loop-preserved : goal.loop-preserved
loop-preserved c = rw c.rest-left.ensures (ending_on _ _ c.loop.invariant.0 (omega (arith, c.loop.invariant.1)) c.entry_at-e.ensures c.extent_of-x.ensures.end (omega (arith, c.if-n-x.false)), omega (arith, c.loop.invariant.1))

pub returns : goal.returns
returns c = record { markable = λ _. markable_below c.requires.passed (omega (arith, c.if-n-frame.false)) (ending_end _ _ c.loop.invariant.0 (omega (arith, c.loop.invariant.1))); below_65536 = λ e. absurd (no_true (sym e)) }
