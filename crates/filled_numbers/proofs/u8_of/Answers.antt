-- Past the end a byte counts as 0. Assumes nothing.
use native.Mathlib.Omega.{arith}
use mathlib.Core.Path.{sym}
use lib.ListN.{get_or-eq_default}
use borrow.Author.Rules.{rules}
use Rattle.filled_numbers.proofs.u8_of.Goals as goal

pub returns-else-at-s : goal.returns-else-at-s
returns-else-at-s c = (sym (get_or-eq_default c.args.s.now 0 c.if-at-s.false), omega arith)
