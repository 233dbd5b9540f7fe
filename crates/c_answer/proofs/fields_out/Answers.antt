-- Each of the sixteen is what its function gives.
-- Assumes nothing.
use Rattle.std.proofs.Common.{rules}
use Rattle.c_answer.specs.Numbers.{fields_out}
use Rattle.c_answer.proofs.fields_out.Goals as goal

pub returns : goal.returns
unfolding fields_out
returns c = simp (c.value.ensures, c.value-2.ensures, c.value-3.ensures, c.value-4.ensures, c.bit.ensures, c.present_bits.ensures)
