-- `next` meets its contract: the rule of the two tables, at the byte and the number.
-- Assumes nothing.
use native.Mathlib.Omega.{arith}
use borrow.Author.Rules.{rules}
use lib.Bits.{and_mask}
use Rattle.text.proofs.utf8.next.Goals as goal

pub overflow_cast-result : goal.overflow_cast-result
overflow_cast-result c = omega (arith, c.requires.rule.class c.args.b (search rules))

pub offset_bounds-words-c : goal.offset_bounds-words-c
offset_bounds-words-c c = omega (arith, c.requires.rule.class c.args.b (search rules))

pub bounds-words-c : goal.bounds-words-c
bounds-words-c c = omega (arith, c.requires.rule.class c.args.b (search rules))

pub returns : goal.returns
returns c = rw (and_mask _ 6) (c.requires.rule.moves c.args.b c.args.st (search rules) c.requires.state)
