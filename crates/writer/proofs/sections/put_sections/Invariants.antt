-- The invariant: what is left to write.
-- Assumes nothing.
use Prim.Native.Nat.{◌-◌}
use mathlib.Core.Path.{◌≡◌}
use Rattle.rows_check.specs.Tree.{next_section, skip}
use Rattle.rows_check.specs.Check.{printed_section}
use Rattle.rows_check.specs.Sections.{many, Sections}
use Rattle.put.specs.OutputLaws.{Left}
use Rattle.writer.proofs.sections.put_sections.Given as goal

abbrev pub invariant-loop : goal.invariant-loop
invariant-loop l =
    Sections l.kind l.rows l.text l.p (l.k - l.counter)
    × (skip l.kind l.rows l.p (l.k - l.counter) ≡ skip l.kind l.rows l.q l.k)
    × Left l.at (many (next_section l.kind l.rows) (printed_section l.kind l.rows l.text) l.q l.k) l.initial.out l.a (many (next_section l.kind l.rows) (printed_section l.kind l.rows l.text) l.p (l.k - l.counter)) l.out
