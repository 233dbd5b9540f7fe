-- The span's two numbers.
-- Assumes nothing.
use Rattle.rows_check.proofs.fits.span_fits.Goals as goal

pub returns : goal.returns
returns c = rw (c.cell_of.ensures.0, c.cell_of-2.ensures.0)
