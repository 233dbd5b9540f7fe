-- What each row has passed, or the test.
-- Assumes nothing.
use mathlib.Core.Path.{sym}
use Rattle.rows_check.proofs.fits.all_pass.Goals as goal

pub returns-then-good : goal.returns-then-good
returns-then-good c = sym (c.requires.passed c.if-good.true)

pub returns : goal.returns
returns c = c.rows_pass.ensures
