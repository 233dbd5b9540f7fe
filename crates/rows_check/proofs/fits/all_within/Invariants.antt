-- The invariant: what is left to test gives the same answer.
-- Assumes nothing.
use Rattle.std.proofs.Common.{◌≡◌, ◌-◌}
use Rattle.rows_check.specs.Tree.{row_count}
use Rattle.rows_check.specs.Check.{every}
use Rattle.rows_check.specs.Answers.{row_good}
use Rattle.rows_check.proofs.fits.all_within.Given as goal

abbrev pub invariant-loop-p : goal.invariant-loop-p
invariant-loop-p l = every (row_good l.rows l.text) l.p (row_count l.rows - l.p) ≡ every (row_good l.rows l.text) 0 (row_count l.rows)
