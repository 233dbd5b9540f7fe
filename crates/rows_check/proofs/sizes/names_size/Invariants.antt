-- The invariant: the sum, and what is left to add, give the same.
-- Assumes nothing.
use Rattle.std.proofs.Common.{◌≡◌, ◌+◌, ◌-◌, ◌≤◌, length}
use Rattle.rows_check.specs.Tree.{after}
use Rattle.rows_check.specs.Sections.{many, printed_name}
use Rattle.rows_check.specs.Answers.{clip}
use Rattle.rows_check.proofs.sizes.names_size.Given as goal

abbrev pub invariant-loop-p : goal.invariant-loop-p
invariant-loop-p l = (l.s ≤ 4294967296) × (clip (l.s + length (many after (printed_name l.rows l.text) l.p (l.q + l.n - l.p))) ≡ clip (l.sum + length (many after (printed_name l.rows l.text) l.q l.n)))
