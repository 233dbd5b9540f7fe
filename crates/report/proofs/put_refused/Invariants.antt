-- The invariant: the lines of the numbers that are left are still to be stored.
-- Assumes nothing.
use Prim.Native.Nat.{◌-◌}
use lib.ListN.{get_or}
use Rattle.put.specs.OutputLaws.{Left}
use Rattle.report.specs.Report.{refused_lines}
use Rattle.report.proofs.put_refused.Given as goal

abbrev pub invariant-loop-number : goal.invariant-loop-number
invariant-loop-number l = Left l.fn.at (refused_lines (λ n. get_or l.counts n 0) 0 256) l.initial.out l.a (refused_lines (λ n. get_or l.counts n 0) l.number (256 - l.number)) l.out
