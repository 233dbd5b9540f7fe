-- `good_pairs` meets its contract: what was looked at, and what is left of the n, tell the same.
-- Assumes nothing.
use mathlib.Core.Path.{sym, ◌∙◌}
use native.Mathlib.Nat.{add-zero, sub-zero}
use Rattle.padded.proofs.PaddedWalk.{pairs_one, pairs_none}
use borrow.Author.Rules.{rules}
use Rattle.padded.proofs.good_pairs.Goals as goal

pub loop-j-init : goal.loop-j-init
loop-j-init c = (search rules, simp (add-zero, sub-zero))

pub loop-j-preserved : goal.loop-j-preserved
loop-j-preserved c = (search rules, rw c.good_pair-all.ensures (c.loop-j.invariant.1 ∙ pairs_one c.args.s.now c.args.a c.args.n c.loop-j.j c.loop-j.all (search rules)))

pub returns : goal.returns
returns c = sym (c.loop-j.invariant.1 ∙ pairs_none c.loop-j.all _ c.args.n c.loop-j.j (search rules))
