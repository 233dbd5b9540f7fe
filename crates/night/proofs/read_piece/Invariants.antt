-- The invariant: what is left of the piece comes to what all of it does.
-- Assumes nothing.
use native.Mathlib.Omega.{arith}
use Rattle.night.specs.TurnLaws.{turn_within, Going, going_start, going_turn, going-none, going-over, going_end}
use borrow.Author.Rules.{rules}
use Rattle.night.proofs.read_piece.Given as goal

abbrev pub invariant-loop-turns : goal.invariant-loop-turns
invariant-loop-turns l =
    Going l.sheet (record { held = l.initial.held; ended = l.initial.ended; store = l.initial.store; symbology = l.initial.symbology; layout = l.initial.layout; counts = l.initial.counts }) l.piece l.held l.ended l.at l.turns l.store l.symbology l.layout l.counts

abbrev pub decreases-loop-turns : goal.decreases-loop-turns
decreases-loop-turns l =
    l.turns
