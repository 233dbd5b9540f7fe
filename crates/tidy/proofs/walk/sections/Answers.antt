-- The sections that are left give what all give. Assumes nothing.
use native.Mathlib.Omega.{arith}
use mathlib.Core.Path.{sym, ap, ◌∙◌}
use Rattle.std.proofs.lemmas.Result.{err_from_is_err_and}
use Rattle.tidy.specs.Walk.{nowhere, sections_from}
use Rattle.tidy.proofs.Laws.{near-at, near_clear, sections-end, sections-on, one_fewer}
use Rattle.tidy.proofs.walk.sections.Goals as goal

pub loop-init : goal.loop-init
loop-init c = (ap (sections_from _ _ _) (omega arith), omega arith)

pub section-requires : goal.section-requires
section-requires c = omega (arith, c.loop.invariant.1, c.requires)

pub loop-preserved : goal.loop-preserved
loop-preserved c = (
  c.loop.invariant.0 ∙ sections-on _ _ _ _ (omega arith) (sym c.section.ensures.0 ∙ c.in_ok-p.was) ∙ ap (sections_from _ _ _) (one_fewer c.args.count c.loop.counter),
  omega (arith, c.loop.invariant.1, near_clear c.section.ensures.1 c.in_ok-p.was),
)

pub returns-in_err-p : goal.returns-in_err-p
returns-in_err-p c =
    let p = err_from_is_err_and c.from_residual.result c.from_residual.ensures.1 in
    rw (p.1, p.2) (sym (c.loop.invariant.0 ∙ sections-on _ _ _ _ (omega arith) (sym c.section.ensures.0 ∙ c.in_err-p.was)), nowhere)

pub returns : goal.returns
returns c = (sym (c.loop.invariant.0 ∙ sections-end _ _ _ _ (omega arith)), near-at (omega (arith, c.loop.invariant.1)))
