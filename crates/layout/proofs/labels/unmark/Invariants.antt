-- The invariant: the codes of the labels left are the only marks. Assumes nothing.
use Rattle.std.specs.Prelude.{◌-◌}
use native.Mathlib.Omega.{arith}
use borrow.Author.Rules.{rules}
use Rattle.layout.specs.Labels.{Codes}
use Rattle.layout.proofs.Labelling.{codes-room, codes-next, codes-end}
use Rattle.layout.proofs.labels.unmark.Given as goal

abbrev pub invariant-loop : goal.invariant-loop
invariant-loop l = Codes l.s (l.count - l.counter) l.p l.marks
