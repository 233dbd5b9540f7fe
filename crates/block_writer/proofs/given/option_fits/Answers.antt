-- By whether it is present.
-- Assumes nothing.
use mathlib.Core.Path.{sym, ◌∙◌}
use Rattle.block_writer.proofs.given.option_fits.Goals as goal

pub returns-then-has : goal.returns-then-has
returns-then-has c = rw (sym c.has.ensures ∙ c.if-has.true)

pub returns : goal.returns
returns c = rw (sym c.has.ensures ∙ c.if-has.false)
