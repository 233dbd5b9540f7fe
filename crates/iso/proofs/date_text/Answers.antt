-- Each digit is what `digit` gives.
-- Assumes nothing.
use borrow.Author.Rules.{rules}
use Rattle.iso.proofs.date_text.Goals as goal

pub returns : goal.returns
returns c = rw (c.digit.ensures, c.digit-2.ensures, c.digit-3.ensures, c.digit-4.ensures, c.digit-5.ensures, c.digit-6.ensures, c.digit-7.ensures, c.digit-8.ensures)
