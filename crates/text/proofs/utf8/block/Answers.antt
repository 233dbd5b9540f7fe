-- Where no row is begun eight bytes below 128 leave none begun; else the eight bytes go one by one.
-- Assumes nothing.
use Prim.Native.Nat.{◌+◌}
use Rattle.text.proofs.Goes.{goes_upto}
use Rattle.text.proofs.Or.{run-below}
use Rattle.text.proofs.States.{state-zero}
use borrow.Author.Rules.{rules}
use Rattle.text.proofs.utf8.block.Goals as goal

pub returns-then-or_all-lt128 : goal.returns-then-or_all-lt128
returns-then-or_all-lt128 c =
    let args = c.args in record {
      still_state = state-zero;
      same = rw c.if-before-eq0.true
          (goes_upto args.s.now args.a (args.a + 8) (search rules) (search rules)
          (run-below 7 args.s.now args.a 8 (search rules) _ c.or_all.ensures c.if-or_all-lt128.true));
    }
