-- The verdict first; the rows where it accepts and the table is long enough. Assumes nothing.
use native.Mathlib.Omega.{arith}
use mathlib.Core.Path.{sym, ◌∙◌}
use Rattle.std.proofs.lemmas.Result.{err_from_is_err_and}
use Rattle.layout.proofs.Public.{accepts, ans_read, ans_short, ans_no}
use Rattle.layout.proofs.read_layout_rows.Goals as goal

pub returns-in_err-accepted : goal.returns-in_err-accepted
returns-in_err-accepted c =
    let p = err_from_is_err_and c.from_residual.result c.from_residual.ensures.1 in
    rw (p.1, p.2) (ans_no _ _ _ (sym c.in_err-accepted.was ∙ c.layout_verdict.ensures))

pub returns-then-table-accepted : goal.returns-then-table-accepted
returns-then-table-accepted c = ans_short _ (accepts _ _ (sym c.in_ok-accepted.was ∙ c.layout_verdict.ensures)) c.if-table-accepted.true

pub groups-requires : goal.groups-requires
groups-requires c = let a = accepts c.args.light _ (sym c.in_ok-accepted.was ∙ c.layout_verdict.ensures) in omega (arith, a.small, a.two)

pub returns : goal.returns
returns c = ans_read _ (accepts _ _ (sym c.in_ok-accepted.was ∙ c.layout_verdict.ensures)) c.if-table-accepted.false c.groups.ensures
