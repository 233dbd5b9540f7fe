-- An alignment of 0 or 1 is never missed; any other divides the offset or not. Assumes nothing.
use borrow.Author.Rules.{rules}
use Rattle.fields.proofs.Outcomes.{aligned_any, aligned_by}
use mathlib.Core.Path.{refl}
use Rattle.fields.proofs.breaks_74.Goals as goal

pub returns-then-a-le1 : goal.returns-then-a-le1
returns-then-a-le1 c = aligned_any _ _ _ _ (rw (← c.align_of-a.ensures) c.if-a-le1.true) refl

pub returns : goal.returns
returns c = aligned_by _ _ _ _ (rw (← c.align_of-a.ensures) c.if-a-le1.false) (rw (c.off_of.ensures.0, c.align_of-a.ensures))
