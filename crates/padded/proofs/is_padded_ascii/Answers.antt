-- `is_padded_ascii` meets its contract. The loop keeps: the i bytes after the first are good; the last sixteen tell the rest.
-- Assumes nothing.
use Prim.Native.Nat.{◌-◌}
use mathlib.Core.Path.{sym, ◌∙◌}
use native.Mathlib.Omega.{arith}
use lib.ListN.{length}
use Rattle.padded.proofs.PaddedWalk.{pairs_empty, pairs_whole, text-high, text-low, walked_none, walked_next, walked_miss, walked-last}
use borrow.Author.Rules.{rules}
use Rattle.padded.proofs.is_padded_ascii.Goals as goal

pub returns-then-s-eq0 : goal.returns-then-s-eq0
returns-then-s-eq0 c = pairs_empty c.args.s.now c.if-s-eq0.true

pub returns-then-s-ge128 : goal.returns-then-s-ge128
returns-then-s-ge128 c =
    let s = c.args.s.now in
    text-high s 0 (length s - 1) c.if-s-ge128.true ∙ pairs_whole s (omega arith)

pub returns-then-last-lt16 : goal.returns-then-last-lt16
returns-then-last-lt16 c =
    let s = c.args.s.now in
    c.good_pairs.ensures ∙ text-low s 0 (length s - 1) c.if-s-ge128.false ∙ pairs_whole s (omega arith)

pub loop-i-init : goal.loop-i-init
loop-i-init c = (omega arith, walked_none c.args.s.now 0)

pub returns-then-not-good_pairs : goal.returns-then-not-good_pairs
returns-then-not-good_pairs c =
    let s = c.args.s.now in
    walked_miss c.loop-i.invariant.1 16 (length s - 1) (search rules) (sym (c.if-not-good_pairs.true) ∙ c.good_pairs-in-loop-i.ensures)
    ∙ text-low s 0 (length s - 1) c.if-s-ge128.false
    ∙ pairs_whole s (omega arith)

pub loop-i-preserved : goal.loop-i-preserved
loop-i-preserved c = (search rules, walked_next c.loop-i.invariant.1 16 (sym (c.if-not-good_pairs.false) ∙ c.good_pairs-in-loop-i.ensures))

pub returns : goal.returns
returns c =
    let s = c.args.s.now in
    c.good_pairs-2.ensures
    ∙ walked-last c.loop-i.invariant.1 16 (length s - 1) (length s - 1 - 16) (search rules) (search rules) (search rules)
    ∙ text-low s 0 (length s - 1) c.if-s-ge128.false
    ∙ pairs_whole s (omega arith)
