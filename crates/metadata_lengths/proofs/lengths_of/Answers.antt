-- One row for each version. Assumes nothing.
use Rattle.std.proofs.Common.{arith}
use Rattle.std.proofs.lemmas.Bool.{eq-eqb, ne_eqb}
use Rattle.metadata_lengths.specs.Lengths.{lengths}
use Rattle.metadata_lengths.proofs.lengths_of.Goals as goal

pub returns-in-1 : goal.returns-in-1
unfolding lengths
returns-in-1 c = rw c.in-1.is

pub returns-in-4 : goal.returns-in-4
unfolding lengths
returns-in-4 c = rw c.in-4.is

pub returns-in_default : goal.returns-in_default
unfolding lengths
returns-in_default c = rw (ne_eqb c.args.version 1 (omega (arith, c.in_default)), ne_eqb c.args.version 4 (omega (arith, c.in_default)))
