-- The invariant: what is left to write.
-- Assumes nothing.
use Prim.Native.Nat.{◌+◌}
use Prim.Native.Nat.{◌-◌}
use Rattle.rows_check.specs.Tree.{after}
use Rattle.rows_check.specs.Sections.{many}
use Rattle.writer.specs.Write.{printed_part}
use Rattle.put.specs.OutputLaws.{Left}
use Rattle.writer.proofs.parts.put_parts.Given as goal

abbrev pub invariant-loop-p : goal.invariant-loop-p
invariant-loop-p l = Left l.at (many after (printed_part l.kind l.rows l.text) l.q l.n) l.initial.out l.a (many after (printed_part l.kind l.rows l.text) l.p (l.q + l.n - l.p)) l.out
