-- The end of the bytes where they are to be spanned. Assumes nothing.
use Rattle.symbology.proofs.least_end.Goals as goal

pub returns-then-spanned : goal.returns-then-spanned
returns-then-spanned c = rw c.if-spanned.true
