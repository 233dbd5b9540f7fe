-- By the first test. Assumes nothing.
use mathlib.Core.Path.{sym, ◌∙◌}
use Rattle.fields.specs.Sheet.{past_base}
use Rattle.fields.proofs.past_base.Goals as goal

pub returns-then-frame : goal.returns-then-frame
unfolding past_base
returns-then-frame c = rw (c.off_of.ensures.0, c.if-frame.true)

pub returns-else-frame : goal.returns-else-frame
unfolding past_base
returns-else-frame c = rw c.if-frame.false
