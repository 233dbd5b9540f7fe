-- The dataset, then version 1.
-- Assumes nothing.
use borrow.Author.Tests.{eq-eqb, ne_eqb, le-leb, lt-leb}
use Rattle.block_writer.specs.Fields.{fields_narrow}
use Rattle.block_writer.proofs.given.are_narrow.Goals as goal

pub returns-then-v-fields : goal.returns-then-v-fields
unfolding fields_narrow
returns-then-v-fields c = rw (← c.lengths_of-v.ensures) (simp (lt-leb _ _ c.if-v-fields.true))

pub returns-then-version-eq1 : goal.returns-then-version-eq1
unfolding fields_narrow
returns-then-version-eq1 c = rw (← c.lengths_of-v.ensures) (simp (le-leb _ _ c.if-v-fields.false, eq-eqb _ _ c.if-version-eq1.true))

pub returns : goal.returns
unfolding fields_narrow
returns c = rw (← c.lengths_of-v.ensures) (simp (le-leb _ _ c.if-v-fields.false, ne_eqb _ _ c.if-version-eq1.false))
