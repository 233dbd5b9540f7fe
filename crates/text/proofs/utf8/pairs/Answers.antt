-- `pairs` meets its contract. The loop keeps: what is left is judged as the whole is.
-- Assumes nothing.
use mathlib.Core.Path.{refl, sym, ◌∙◌}
use Rattle.text.proofs.Goes.{goes-letter}
use borrow.Author.Rules.{rules}
use Rattle.text.proofs.utf8.pairs.Goals as goal

pub loop-i-init : goal.loop-i-init
loop-i-init c = (search rules, refl)

pub overflow_add-i : goal.overflow_add-i
overflow_add-i c = let (room, same) = goes-letter c.args.s.now c.loop-i.i (sym c.pair_at.ensures ∙ c.if-not-pair_at.false) in search rules

pub loop-i-preserved : goal.loop-i-preserved
loop-i-preserved c =
    let (room, same) = goes-letter c.args.s.now c.loop-i.i (sym c.pair_at.ensures ∙ c.if-not-pair_at.false) in
    (room, c.loop-i.invariant.1 ∙ same)
