-- What is left to test gives the same answer.
-- Assumes nothing.
use Rattle.std.proofs.Common.{◌-◌, sym, ◌∙◌, arith}
use Rattle.rows_check.specs.Tree.{row_count}
use Rattle.rows_check.specs.Check.{rises_at}
use Rattle.rows_check.specs.CheckLaws.{upto-end, upto_yes, upto-no, every-past}
use native.Mathlib.Nat.{zero-add}
use Rattle.rows_check.proofs.order.labels_rise.Goals as goal

pub loop-p-init : goal.loop-p-init
loop-p-init c =
    let rows = c.args.rows.now in
    sym (rw (zero-add _) at (every-past (rises_at rows) 0 c.args.from (row_count rows - 1) c.requires.risen))

pub returns-then-not-rises_at : goal.returns-then-not-rises_at
returns-then-not-rises_at c = sym (upto-no (rises_at c.args.rows.now) c.loop-p.p (row_count c.args.rows.now - 1) (omega arith) (sym c.rises_at.ensures ∙ c.if-not-rises_at.true)) ∙ c.loop-p.invariant

pub loop-p-preserved : goal.loop-p-preserved
loop-p-preserved c = sym (upto_yes (rises_at c.args.rows.now) c.loop-p.p (row_count c.args.rows.now - 1) (omega arith) (sym c.rises_at.ensures ∙ c.if-not-rises_at.false)) ∙ c.loop-p.invariant

pub returns : goal.returns
returns c = sym (upto-end (rises_at c.args.rows.now) c.loop-p.p (row_count c.args.rows.now - 1) (omega arith)) ∙ c.loop-p.invariant
