-- `by_sixteen` meets its contract. The loop keeps: `end` is no shorter than the length without zeros.
-- Assumes nothing.
use Prim.Native.Nat.{◌≤◌}
use lib.ListN.{length}
use Rattle.text.specs.Trim.{trimmed_len}
use Rattle.text.proofs.trim.by_sixteen.Given as goal

abbrev pub invariant-loop-end : goal.invariant-loop-end
invariant-loop-end l = (l.end ≤ length l.s) × (trimmed_len l.s ≤ l.end)

abbrev pub decreases-loop-end : goal.decreases-loop-end
decreases-loop-end l = l.end
