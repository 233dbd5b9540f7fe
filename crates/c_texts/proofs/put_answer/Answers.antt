-- Case by case.
-- Assumes nothing.
use borrow.Author.Rules.{rules}
use Rattle.c_texts.proofs.put_answer.Goals as goal

pub returns-in-Some : goal.returns-in-Some
returns-in-Some c = let e = c.in-Some.is in (simp e, simp e)
