-- `letters` meets its contract. The loop keeps: what is left is judged as the whole is.
-- Assumes nothing.
use mathlib.Core.Path.{refl, sym, ◌∙◌}
use Rattle.text.proofs.Goes.{goes-letter, goes-low-one}
use borrow.Author.Rules.{rules}
use Rattle.text.proofs.utf8.letters.Goals as goal

pub loop-i-init : goal.loop-i-init
loop-i-init c = (search rules, refl)

pub loop-i-preserved-then-s-i-lt128 : goal.loop-i-preserved-then-s-i-lt128
loop-i-preserved-then-s-i-lt128 c = (search rules, c.loop-i.invariant.1 ∙ goes-low-one c.args.s.now c.loop-i.i c.loop-i-test.true c.if-s-i-lt128.true)

pub overflow_add-i-else-s-i-lt128 : goal.overflow_add-i-else-s-i-lt128
overflow_add-i-else-s-i-lt128 c = let (room, same) = goes-letter c.args.s.now c.loop-i.i (sym c.pair_at.ensures ∙ c.if-not-pair_at.false) in search rules

pub loop-i-preserved : goal.loop-i-preserved
loop-i-preserved c =
    let (room, same) = goes-letter c.args.s.now c.loop-i.i (sym c.pair_at.ensures ∙ c.if-not-pair_at.false) in
    (room, c.loop-i.invariant.1 ∙ same)
