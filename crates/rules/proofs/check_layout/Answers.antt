-- The layout first, then its rules, which decide. Assumes nothing.
use mathlib.Core.Path.{refl, sym, ◌∙◌}
use Rattle.std.proofs.lemmas.Result.{err_from_is_err_and}
use Rattle.codec.specs.Telling.{is_passed, passed_refuses}
use Rattle.rules.specs.LayoutRuleLaws.{accepted, ruled-fine, ruled_broken, ruled_unread}
use Rattle.rules.proofs.check_layout.Goals as goal

pub layout_rules-requires : goal.layout_rules-requires
layout_rules-requires c = accepted _ (sym c.in_ok-accepted.ensures)

pub returns : goal.returns
returns c = ruled-fine _ _ _ (sym c.in_ok-accepted.ensures) refl (is_passed _ c.in_ok-layout_rules.ensures)

pub returns-in_err-layout_rules : goal.returns-in_err-layout_rules
returns-in_err-layout_rules c =
    let p = err_from_is_err_and c.from_residual-in_err-layout_rules.result c.from_residual-in_err-layout_rules.ensures.1 in
    let n = passed_refuses _ c.in_err-layout_rules.ensures in
    rw (p.1, p.2, n.1) (ruled_broken _ _ _ (sym c.in_ok-accepted.ensures) refl n.0)

pub returns-in_err-accepted : goal.returns-in_err-accepted
returns-in_err-accepted c =
    let p = err_from_is_err_and c.from_residual.result c.from_residual.ensures.1 in
    rw (p.1, p.2) (ruled_unread _ _ _ (sym c.in_err-accepted.ensures))
