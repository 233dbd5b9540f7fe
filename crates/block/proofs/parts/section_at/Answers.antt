-- Version 4 has a length; below, the section is the rest. Assumes nothing.
use Rattle.std.proofs.Common.{arith, rules, le_refl}
use Rattle.block.proofs.PartLaws.{within-mk, within-back}
use Rattle.block.proofs.parts.section_at.Goals as goal

pub returns-then-has_layout : goal.returns-then-has_layout
returns-then-has_layout c = (rw c.if-has_layout.true c.span_at.ensures.0, within-back c.span_at.ensures.1)

pub returns : goal.returns
returns c = (rw c.if-has_layout.false, within-mk (le_refl _) (omega arith))
