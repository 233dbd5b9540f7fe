-- By the presence bit.
-- Assumes nothing.
use Prim.Native.Nat.{◌/◌, ◌%◌}
use lib.ListN.{get_or}
use borrow.Author.Tests.{eq-eqb, ne_eqb}
use borrow.Author.Rules.{rules}
use Rattle.header_bytes.proofs.stored.Goals as goal

pub returns-then-fields-bit-eq1 : goal.returns-then-fields-bit-eq1
returns-then-fields-bit-eq1 c = rw (eq-eqb (get_or c.args.fields.now 12 0 / c.args.bit % 2) 1 c.if-fields-bit-eq1.true)

pub returns : goal.returns
returns c = rw (ne_eqb (get_or c.args.fields.now 12 0 / c.args.bit % 2) 1 c.if-fields-bit-eq1.false)
