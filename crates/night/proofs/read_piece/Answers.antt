-- The invariant: what is left of the piece comes to what all of it does.
-- Assumes nothing.
use native.Mathlib.Omega.{arith}
use Rattle.night.specs.TurnLaws.{turn_within, Going, going_start, going_turn, going-none, going-over, going_end}
use borrow.Author.Rules.{rules}
use Rattle.night.proofs.read_piece.Goals as goal

pub loop-turns-init : goal.loop-turns-init
loop-turns-init c = going_start _ _ _

pub shape_of-store-then-piece-at : goal.shape_of-store-then-piece-at
shape_of-store-then-piece-at c = c.loop-turns.invariant.store

pub shape_of-symbology-then-piece-at : goal.shape_of-symbology-then-piece-at
shape_of-symbology-then-piece-at c = c.loop-turns.invariant.symbology

pub shape_of-layout-then-piece-at : goal.shape_of-layout-then-piece-at
shape_of-layout-then-piece-at c = c.loop-turns.invariant.layout

pub returns-then-piece-at : goal.returns-then-piece-at
returns-then-piece-at c = going-none c.loop-turns.invariant c.if-piece-at.true

pub shape_of-store-then-ended : goal.shape_of-store-then-ended
shape_of-store-then-ended c = c.loop-turns.invariant.store

pub shape_of-symbology-then-ended : goal.shape_of-symbology-then-ended
shape_of-symbology-then-ended c = c.loop-turns.invariant.symbology

pub shape_of-layout-then-ended : goal.shape_of-layout-then-ended
shape_of-layout-then-ended c = c.loop-turns.invariant.layout

pub returns-then-ended : goal.returns-then-ended
returns-then-ended c = going-over c.loop-turns.invariant c.if-ended.true

pub overflow_add-at : goal.overflow_add-at
overflow_add-at c = omega (arith, turn_within c.args.piece.now c.loop-turns.at c.take_turn-turn.ensures c.loop-turns.invariant.within)

pub loop-turns-preserved : goal.loop-turns-preserved
loop-turns-preserved c = going_turn c.loop-turns.invariant c.loop-turns-test.true (omega (arith, c.if-piece-at.false)) c.if-ended.false c.take_turn-turn.ensures (search rules) (search rules) (search rules)

pub shape_of-store : goal.shape_of-store
shape_of-store c = c.loop-turns.invariant.store

pub shape_of-symbology : goal.shape_of-symbology
shape_of-symbology c = c.loop-turns.invariant.symbology

pub shape_of-layout : goal.shape_of-layout
shape_of-layout c = c.loop-turns.invariant.layout

pub returns : goal.returns
returns c = going_end c.loop-turns.invariant (omega (arith, c.loop-turns-test.false))
