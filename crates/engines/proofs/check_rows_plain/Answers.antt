-- The rules of rows by marks.
-- Assumes nothing.
use mathlib.Core.Path.{sym, ap, ◌∙◌}
use Rattle.std.proofs.lemmas.Result.{err_from_is_err_and}
use Rattle.codec.specs.Telling.{all_passed, refuses_by}
use Rattle.rules.specs.RowRuleLaws.{ruled-length, ruled-fault}
use Rattle.engines.proofs.check_rows_plain.Goals as goal

pub returns : goal.returns
returns c = all_passed _ (ruled-length _ _ _ _ _ _ c.in_ok-check_rows.ensures).0

pub returns-in_err-check_rows : goal.returns-in_err-check_rows
returns-in_err-check_rows c =
    let p = err_from_is_err_and c.from_residual.result c.from_residual.ensures.1 in
    let f = ruled-fault _ _ _ _ _ _ c.in_err-check_rows.ensures in
    rw (p.1, p.2, f.1) (refuses_by _ f.0)
