-- Past the end there is no byte.
-- Assumes nothing.
use native.Mathlib.Omega.{arith}
use mathlib.Core.Path.{sym}
use lib.ListN.{get_or-eq_default}
use borrow.Author.Rules.{rules}
use Rattle.entry.proofs.byte.Goals as goal

pub returns-else-j-left : goal.returns-else-j-left
returns-else-j-left c = sym (get_or-eq_default c.args.s.now 0 (omega arith))
