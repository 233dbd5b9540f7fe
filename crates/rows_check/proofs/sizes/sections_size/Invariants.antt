-- The invariant: the sum, and the sections that are left, give the same.
-- Assumes nothing.
use Rattle.std.proofs.Common.{◌≡◌, ◌+◌, ◌-◌, ◌≤◌, length}
use Rattle.rows_check.specs.Tree.{next_section, skip}
use Rattle.rows_check.specs.Check.{printed_section, fits_all}
use Rattle.rows_check.specs.Sections.{many, Sections}
use Rattle.rows_check.specs.Answers.{size_of}
use Rattle.rows_check.proofs.sizes.sections_size.Given as goal

abbrev pub invariant-loop : goal.invariant-loop
invariant-loop l =
    Sections l.kind l.rows l.text l.p (l.k - l.counter)
    × (skip l.kind l.rows l.p (l.k - l.counter) ≡ skip l.kind l.rows l.q l.k)
    × (l.s ≤ 4294967296)
    × (size_of (fits_all l.kind l.rows l.text l.p (l.k - l.counter)) (l.s + length (many (next_section l.kind l.rows) (printed_section l.kind l.rows l.text) l.p (l.k - l.counter)))
    ≡ size_of (fits_all l.kind l.rows l.text l.q l.k) (l.sum + length (many (next_section l.kind l.rows) (printed_section l.kind l.rows l.text) l.q l.k)))
