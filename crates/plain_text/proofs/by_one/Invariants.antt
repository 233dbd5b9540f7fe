-- What is left to test tells the same as the whole. Assumes nothing.
use Rattle.text.specs.AllLaws.{Scan}
use Rattle.plain_text.specs.Plain.{plain_byte}
use Rattle.plain_text.proofs.by_one.Given as goal

abbrev pub invariant-loop-b : goal.invariant-loop-b
invariant-loop-b l = Scan plain_byte l.s l.b-index
