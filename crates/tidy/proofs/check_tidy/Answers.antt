-- The reader's verdict, then what the walk meets. Assumes nothing.
use native.Mathlib.Omega.{arith}
use mathlib.Core.Path.{sym, ◌∙◌}
use Rattle.std.proofs.lemmas.Result.{err_from_is_err_and}
use Rattle.tidy.proofs.WalkLaws.{accepted-told, refused-told}
use Rattle.tidy.proofs.check_tidy.Goals as goal

pub returns : goal.returns
returns c = accepted-told _ _ _ (λ i. omega (arith, c.type_inv.layout i)) (sym c.in_ok-check_layout.was ∙ c.check_layout.ensures) (sym c.in_ok-layout_met.was ∙ c.layout_met.ensures)

pub returns-in_err-layout_met : goal.returns-in_err-layout_met
returns-in_err-layout_met c =
    let p = err_from_is_err_and c.from_residual-in_err-layout_met.result c.from_residual-in_err-layout_met.ensures.1 in
    rw (p.1, p.2) (accepted-told _ _ _ (λ i. omega (arith, c.type_inv.layout i)) (sym c.in_ok-check_layout.was ∙ c.check_layout.ensures) (sym c.in_err-layout_met.was ∙ c.layout_met.ensures))

pub returns-in_err-check_layout : goal.returns-in_err-check_layout
returns-in_err-check_layout c =
    let p = err_from_is_err_and c.from_residual.result c.from_residual.ensures.1 in
    rw (p.1, p.2) (refused-told _ _ _ (sym c.in_err-check_layout.was ∙ c.check_layout.ensures))
