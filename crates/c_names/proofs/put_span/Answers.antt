-- Case by case.
-- Assumes nothing.
use borrow.Author.Rules.{rules}
use Rattle.c_names.proofs.put_span.Goals as goal

pub returns-in-Ok : goal.returns-in-Ok
returns-in-Ok c = let e = c.in-Ok.is in (simp e, simp e)
