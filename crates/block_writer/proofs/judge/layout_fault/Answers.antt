-- The rules of the layout that is written; below version 4 there is none.
-- Assumes nothing.
use Rattle.std.proofs.Common.{ap, refl, arith, ◌∙◌}
use Rattle.std.specs.Prelude.{Err}
use Rattle.std.proofs.lemmas.Result.{err_from_is_err_and}
use borrow.Author.Tests.{eq-eqb, ne_eqb}
use Rattle.codec.specs.Telling.{all_passed, refuses_by}
use Rattle.block_writer.proofs.JudgeLaws.{nil_is, rules-refuse, rules-pass}
use Rattle.block_writer.proofs.judge.layout_fault.Goals as goal

pub returns-in_err-check_rows : goal.returns-in_err-check_rows
returns-in_err-check_rows c =
    let p = err_from_is_err_and c.from_residual.result c.from_residual.ensures.1 in
    rw (p.1, p.2, c.if-has.true) (rules-refuse c.args.sheet.now c.args.width c.args.rows.now c.args.text.now c.requires c.in_err-check_rows.ensures)

pub returns-then-has : goal.returns-then-has
returns-then-has c = rw c.if-has.true (rules-pass c.args.sheet.now c.args.width c.args.rows.now c.args.text.now c.requires c.in_ok-check_rows.ensures)

pub returns-then-rows-eq0 : goal.returns-then-rows-eq0
returns-then-rows-eq0 c = rw (c.if-has.false, nil_is c.args.rows.now, eq-eqb _ _ c.if-rows-eq0.true) (all_passed 0 refl)

pub returns : goal.returns
returns c = rw (c.if-has.false, nil_is c.args.rows.now, ne_eqb _ _ c.if-rows-eq0.false) (ap Err c.refused.ensures ∙ refuses_by 25 (λ z. omega arith))
