-- `is_plain` meets its contract: what is left tells the same; the last eight bytes tell of what is left, if anything.
-- Assumes nothing.
use Prim.Native.Nat.{◌-◌}
use lib.ListN.{length}
use Rattle.text.specs.AllLaws.{Scan}
use Rattle.plain_text.specs.Plain.{plain_byte}
use Rattle.plain_text.proofs.is_plain.Given as goal

abbrev pub invariant-loop-i : goal.invariant-loop-i
invariant-loop-i l = Scan plain_byte l.s l.i

abbrev pub decreases-loop-i : goal.decreases-loop-i
decreases-loop-i l = length l.s - l.i
