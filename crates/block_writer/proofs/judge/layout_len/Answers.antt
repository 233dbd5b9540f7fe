-- By the version, then by whether there are rows.
-- Assumes nothing.
use borrow.Author.Tests.{eq-eqb, ne_eqb}
use Rattle.block_writer.proofs.JudgeLaws.{nil_is}
use Rattle.block_writer.proofs.judge.layout_len.Goals as goal

pub returns-then-rows-eq0 : goal.returns-then-rows-eq0
returns-then-rows-eq0 c = rw (c.if-has.false, nil_is c.args.rows.now, eq-eqb _ _ c.if-rows-eq0.true)

pub returns : goal.returns
returns c = rw (c.if-has.false, nil_is c.args.rows.now, ne_eqb _ _ c.if-rows-eq0.false)
