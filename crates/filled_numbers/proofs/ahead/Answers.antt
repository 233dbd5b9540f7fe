-- Past the end no byte is left, there as here. Assumes nothing.
use Prim.Native.Nat.{◌+◌, ◌≤◌}
use native.Mathlib.Omega.{arith}
use mathlib.Core.Path.{sym, ◌∙◌}
use lib.ListN.{length, drop_of_length-le}
use lib.Seq.{drop-length}
use borrow.Author.Rules.{rules}
use Rattle.filled_numbers.proofs.ahead.Goals as goal

pub returns-else-n-left : goal.returns-else-n-left
returns-else-n-left c = let s = c.args.s.now in let past : length s ≤ c.args.at + c.args.n = omega arith in drop-length s ∙ sym (drop_of_length-le s past)
