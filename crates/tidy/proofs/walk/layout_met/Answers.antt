-- Each group begins where the one before it ends. Assumes nothing.
use native.Mathlib.Omega.{arith}
use mathlib.Core.Path.{sym, ◌∙◌}
use Rattle.std.proofs.lemmas.Result.{err_from_is_err_and}
use Rattle.tidy.proofs.Laws.{near_clear, layout_is}
use Rattle.tidy.proofs.walk.layout_met.Goals as goal

pub group-requires-2 : goal.group-requires-2
group-requires-2 c = omega (arith, near_clear c.group.ensures.1 c.in_ok-structs_at.was)

pub group-requires-3 : goal.group-requires-3
group-requires-3 c = omega (arith, near_clear c.group.ensures.1 c.in_ok-structs_at.was, near_clear c.group-2.ensures.1 c.in_ok-labels_at.was)

pub returns : goal.returns
returns c = c.closing.ensures ∙ sym (layout_is _ (sym c.group.ensures.0 ∙ c.in_ok-structs_at.was) ∙ rw (sym c.group-2.ensures.0 ∙ c.in_ok-labels_at.was, sym c.group-3.ensures.0 ∙ c.in_ok-end.was))

pub returns-in_err-end : goal.returns-in_err-end
returns-in_err-end c =
    let p = err_from_is_err_and c.from_residual-in_err-end.result c.from_residual-in_err-end.ensures.1 in
    rw (p.1, p.2) (sym (layout_is _ (sym c.group.ensures.0 ∙ c.in_ok-structs_at.was) ∙ rw (sym c.group-2.ensures.0 ∙ c.in_ok-labels_at.was, sym c.group-3.ensures.0 ∙ c.in_err-end.was)))

pub returns-in_err-labels_at : goal.returns-in_err-labels_at
returns-in_err-labels_at c =
    let p = err_from_is_err_and c.from_residual-in_err-labels_at.result c.from_residual-in_err-labels_at.ensures.1 in
    rw (p.1, p.2) (sym (layout_is _ (sym c.group.ensures.0 ∙ c.in_ok-structs_at.was) ∙ rw (sym c.group-2.ensures.0 ∙ c.in_err-labels_at.was)))

pub returns-in_err-structs_at : goal.returns-in_err-structs_at
returns-in_err-structs_at c =
    let p = err_from_is_err_and c.from_residual.result c.from_residual.ensures.1 in
    rw (p.1, p.2) (sym (layout_is _ (sym c.group.ensures.0 ∙ c.in_err-structs_at.was)))
