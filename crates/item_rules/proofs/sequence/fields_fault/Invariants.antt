-- The invariant: the fields left give the same number, the marks are the ids so far, and where those left go on in order all are in
-- order. Assumes nothing.
use Rattle.std.specs.Prelude.{◌+◌, ◌≡◌}
use Rattle.item_rules.proofs.Loops.{Fielding}
use Rattle.item_rules.proofs.InOrder.{Following}
use Rattle.item_rules.proofs.sequence.fields_fault.Given as goal

abbrev pub invariant-loop : goal.invariant-loop
invariant-loop l =
    (Fielding l.sheet l.frame.width l.frame.labels l.aligns l.frame.is_record l.frame.base l.layout l.rows l.initial.left l.left l.marks) × (Following l.frame.is_record l.frame.base l.layout l.rows l.initial.left l.left l.so) × (l.left.count + l.counter ≡ l.initial.left.count)
