-- The invariant: the alignments so far and those to come are the alignments of all structs. Assumes nothing.
use Rattle.item_rules.proofs.Turns.{Filling}
use Rattle.item_rules.proofs.items.fill_aligns.Given as goal

abbrev pub invariant-loop-a : goal.invariant-loop-a
invariant-loop-a l =
    Filling l.sheet l.layout l.rows l.initial.p l.p l.a-index l.aligns
