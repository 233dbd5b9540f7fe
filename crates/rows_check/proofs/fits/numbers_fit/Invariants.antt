-- The invariant: what was tested, and what is left, give the same.
-- Assumes nothing.
use Prim.Native.Nat.{◌-◌, ◌≤◌}
use mathlib.Core.Path.{◌≡◌}
use mathlib.Core.Bool.{◌&&◌}
use Rattle.rows_check.specs.Check.{every, number_fits}
use Rattle.rows_check.proofs.fits.numbers_fit.Given as goal

abbrev pub invariant-loop-j : goal.invariant-loop-j
invariant-loop-j l = (1 ≤ l.j) × (l.j ≤ 9) × ((l.fit && every (number_fits l.rows l.q l.kind) l.j (9 - l.j)) ≡ every (number_fits l.rows l.q l.kind) 1 8)

abbrev pub decreases-loop-j : goal.decreases-loop-j
decreases-loop-j l = 9 - l.j
