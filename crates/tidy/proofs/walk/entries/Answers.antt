-- The entries that are left give what all give. Assumes nothing.
use native.Mathlib.Omega.{arith}
use mathlib.Core.Path.{sym, ap, ◌∙◌}
use Rattle.std.proofs.lemmas.Result.{err_from_is_err_and}
use Rattle.layout.specs.LayoutOf.{D-is}
use Rattle.tidy.specs.Walk.{nowhere, entries_from}
use Rattle.tidy.proofs.Laws.{near-at, near_clear, entries-end, entries-on, one_fewer}
use Rattle.tidy.proofs.walk.entries.Goals as goal

pub loop-init : goal.loop-init
loop-init c = (ap (entries_from _ _) (omega arith), omega arith)

pub zeros-requires : goal.zeros-requires
zeros-requires c = (omega (arith, c.loop.invariant.1, c.requires), omega arith)

pub overflow_add-p : goal.overflow_add-p
overflow_add-p c = omega (arith, c.loop.invariant.1, c.requires)

pub loop-preserved : goal.loop-preserved
loop-preserved c = (
  c.loop.invariant.0 ∙ entries-on _ _ _ (sym D-is) (omega arith) (sym c.zeros.ensures.0 ∙ c.in_ok-p.was) ∙ ap (entries_from _ _) (one_fewer c.args.count c.loop.counter),
  omega (arith, c.loop.invariant.1, near_clear c.zeros.ensures.1 c.in_ok-p.was),
)

pub returns-in_err-p : goal.returns-in_err-p
returns-in_err-p c =
    let p = err_from_is_err_and c.from_residual.result c.from_residual.ensures.1 in
    rw (p.1, p.2) (sym (c.loop.invariant.0 ∙ entries-on _ _ _ (sym D-is) (omega arith) (sym c.zeros.ensures.0 ∙ c.in_err-p.was)), nowhere)

pub returns : goal.returns
returns c = (sym (c.loop.invariant.0 ∙ entries-end _ _ _ (omega arith)), near-at (omega (arith, c.loop.invariant.1)))
