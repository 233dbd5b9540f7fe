-- The invariant: what was tested, and what is left, give the same.
-- Assumes nothing.
use mathlib.Core.Path.{refl, sym, ◌∙◌}
use Rattle.rows_check.specs.Check.{number_fits}
use Rattle.rows_check.proofs.WalkLaws.{fit_next, fit_none}
use borrow.Author.Rules.{rules}
use Rattle.rows_check.proofs.fits.numbers_fit.Goals as goal

pub loop-j-init : goal.loop-j-init
loop-j-init c = (search rules, search rules, refl)

pub loop-j-preserved : goal.loop-j-preserved
loop-j-preserved c =
    let args = c.args in (
      search rules,
      search rules,
      rw (c.cell_of.ensures.0, c.limit_of.ensures) (sym (fit_next (number_fits args.rows.now args.q args.kind) c.loop-j.j c.loop-j.fit (search rules)) ∙ c.loop-j.invariant.2),
    )

pub returns : goal.returns
returns c = sym (fit_none (number_fits c.args.rows.now c.args.q c.args.kind) c.loop-j.j c.loop-j.fit (search rules)) ∙ c.loop-j.invariant.2
