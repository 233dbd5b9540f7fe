-- A layout that passes the rules is read; a refused one leaves the table.
-- Assumes nothing.
use mathlib.Core.Path.{sym, ◌∙◌}
use Rattle.std.proofs.lemmas.Result.{err_from_is_err_and}
use Rattle.given_layout.proofs.RuledLaws.{ruled-read, ruled-no}
use Rattle.given_layout.proofs.read_layout.Goals as goal

pub returns : goal.returns
returns c = ruled-read (sym c.in_ok-check_layout.was ∙ c.check_layout.ensures) _ c.read_layout_rows.ensures

pub returns-in_err-check_layout : goal.returns-in_err-check_layout
returns-in_err-check_layout c =
    let p = err_from_is_err_and c.from_residual.result c.from_residual.ensures.1 in
    rw (p.1, p.2) (ruled-no (sym c.in_err-check_layout.was ∙ c.check_layout.ensures))
