-- What is tried of the rows first, then their rules, which decide. Assumes nothing.
use mathlib.Core.Path.{refl}
use Rattle.std.proofs.Common.{◌∙◌}
use Rattle.std.proofs.lemmas.Result.{err_from_is_err_and}
use Rattle.codec.specs.Telling.{is_passed, passed_refuses}
use Rattle.rows_check.specs.AnswerLaws.{sized-length, sized-fault, fault-formed}
use Rattle.rules.specs.RowRuleLaws.{ruled_broken, ruled-made, ruled_malformed}
use Rattle.rules.proofs.check_rows.Goals as goal

pub returns-in_err-size : goal.returns-in_err-size
returns-in_err-size c =
    let p = err_from_is_err_and c.from_residual.result c.from_residual.ensures.1 in
    p.1 ∙ rw p.2 (ruled_malformed _ _ _ _ _ (sized-fault _ _ _ _ c.in_err-size.ensures))

pub formed_rules-requires : goal.formed_rules-requires
formed_rules-requires c =
    let v = sized-length _ _ _ _ c.in_ok-size.ensures in
    record { formed = fault-formed _ _ _ v.0; counts = (v.1.records, (v.1.structs, v.1.labels)) }

pub returns-in_err-formed_rules : goal.returns-in_err-formed_rules
returns-in_err-formed_rules c =
    let p = err_from_is_err_and c.from_residual-in_err-formed_rules.result c.from_residual-in_err-formed_rules.ensures.1 in
    let n = passed_refuses _ c.in_err-formed_rules.ensures in
    rw (p.1, p.2, n.1) (ruled_broken _ _ _ _ _ (sized-length _ _ _ _ c.in_ok-size.ensures).0 refl n.0)

pub returns : goal.returns
returns c = ruled-made _ _ _ _ _ c.in_ok-size.ensures refl (is_passed _ c.in_ok-formed_rules.ensures)
