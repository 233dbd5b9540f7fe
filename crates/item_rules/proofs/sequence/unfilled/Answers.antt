-- The end is the base or not. Assumes nothing.
use borrow.Author.Tests.{eq-eqb, ne_eqb}
use Rattle.item_rules.proofs.sequence.unfilled.Goals as goal

pub returns-then-end-base : goal.returns-then-end-base
returns-then-end-base c = rw (eq-eqb c.args.end c.args.base c.if-end-base.true)

pub returns : goal.returns
returns c = rw (ne_eqb c.args.end c.args.base c.if-end-base.false)
