-- Past the end there is no number.
-- Assumes nothing.
use native.Mathlib.Omega.{arith}
use mathlib.Core.Path.{sym}
use lib.ListN.{get_or-eq_default}
use borrow.Author.Rules.{rules}
use Rattle.entry.proofs.number.Goals as goal

pub returns-else-j-from : goal.returns-else-j-from
returns-else-j-from c = sym (get_or-eq_default c.args.rows.now 0 (omega arith))
