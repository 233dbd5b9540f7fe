-- The invariant: the structs to come give the same number, and the owners are as they were lent. Assumes nothing.
use mathlib.Core.Bool.{false}
use mathlib.Core.Path.{◌≡◌}
use lib.ListN.{length}
use Rattle.item_rules.specs.Items.{seqs_from}
use Rattle.item_rules.proofs.Turns.{Structing}
use Rattle.item_rules.proofs.items.structs_fault.Given as goal

abbrev pub invariant-loop-item : goal.invariant-loop-item
invariant-loop-item l =
    Structing l.sheet l.how.width l.how.labels l.aligns l.layout l.rows l.initial.p l.p l.marks × (l.owners ≡ l.initial.owners)

abbrev pub decreases-loop-item : goal.decreases-loop-item
decreases-loop-item l =
    length (seqs_from l.layout l.rows false l.p)
