-- By the version.
-- Assumes nothing.
use borrow.Author.Tests.{eq-eqb, ne_eqb}
use Rattle.block_writer.proofs.given.width_fits.Goals as goal

pub returns-then-version-eq1 : goal.returns-then-version-eq1
returns-then-version-eq1 c = rw (eq-eqb c.args.version 1 c.if-version-eq1.true)

pub returns : goal.returns
returns c = rw (ne_eqb c.args.version 1 c.if-version-eq1.false)
