-- The table is the definition.
-- Assumes nothing.
use mathlib.Core.Path.{◌∙◌}
use Rattle.rows_check.specs.Check.{limit_of}
use Rattle.rows_check.proofs.fits.limit_of.Goals as goal

pub returns : goal.returns
unfolding limit_of
returns c = c.wide.ensures.0 ∙ rw c.requires.limits_of
