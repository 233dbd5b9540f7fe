-- A span within the bytes is that part of them; any other is empty.
-- Assumes nothing.
use native.Mathlib.Omega.{arith}
use Rattle.names.proofs.NameLaws.{part_in_lem, part_out, part_none}
use borrow.Author.Rules.{rules}
use Rattle.names.proofs.part.Goals as goal

pub returns-then-s-start : goal.returns-then-s-start
returns-then-s-start c = part_out c.args.s.now c.in-Ok.is (omega (arith, c.if-s-start.true))

pub returns-then-s-start-2 : goal.returns-then-s-start-2
returns-then-s-start-2 c = part_out c.args.s.now c.in-Ok.is (omega (arith, c.if-s-start.false, c.if-s-start-2.true))

pub returns-else-s-start-2 : goal.returns-else-s-start-2
returns-else-s-start-2 c = part_in_lem c.args.s.now c.in-Ok.is (omega (arith, c.if-s-start.false, c.if-s-start-2.false))

pub returns-in-Err : goal.returns-in-Err
returns-in-Err c = part_none c.args.s.now c.in-Err.is
