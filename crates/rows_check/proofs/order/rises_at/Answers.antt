-- Only two labels one after the other are compared.
-- Assumes nothing.
use borrow.Author.Tests.{eq-eqb, ne_eqb}
use Rattle.rows_check.specs.Check.{rises_at}
use Rattle.rows_check.proofs.order.rises_at.Goals as goal

pub returns-then-a-ne-LABEL : goal.returns-then-a-ne-LABEL
unfolding rises_at
returns-then-a-ne-LABEL c = rw (← c.cell_of-a.ensures.0) (simp (ne_eqb _ _ c.if-a-ne-LABEL.true))

pub returns-then-b-ne-LABEL : goal.returns-then-b-ne-LABEL
unfolding rises_at
returns-then-b-ne-LABEL c = rw (← c.cell_of-a.ensures.0, ← c.cell_of-b.ensures.0) (simp (eq-eqb _ _ c.if-a-ne-LABEL.false, ne_eqb _ _ c.if-b-ne-LABEL.true))

pub returns : goal.returns
unfolding rises_at
returns c = rw (← c.cell_of-a.ensures.0, ← c.cell_of-b.ensures.0, ← c.cell_of.ensures.0, ← c.cell_of-2.ensures.0) (simp (eq-eqb _ _ c.if-a-ne-LABEL.false, eq-eqb _ _ c.if-b-ne-LABEL.false))
