-- The invariant: what is left to test gives the same answer.
-- Assumes nothing.
use Rattle.std.proofs.Common.{◌≡◌, ◌+◌, ◌-◌}
use Rattle.rows_check.specs.Check.{passes}
use Rattle.rows_check.proofs.fits.rows_pass.Given as goal

abbrev pub invariant-loop-p : goal.invariant-loop-p
invariant-loop-p l = passes l.which l.rows l.text l.p (l.q + l.n - l.p) ≡ passes l.which l.rows l.text l.q l.n
