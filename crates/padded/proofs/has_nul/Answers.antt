-- `has_nul` meets its contract: what was found, and what is left, tell the same. Assumes nothing.
use mathlib.Core.Path.{refl, sym, ◌∙◌}
use Rattle.padded.proofs.PaddedWalk.{nul_next, nul_end}
use borrow.Author.Rules.{rules}
use Rattle.padded.proofs.has_nul.Goals as goal

pub loop-b-init : goal.loop-b-init
loop-b-init c = (search rules, refl)

pub loop-b-preserved : goal.loop-b-preserved
loop-b-preserved c = (search rules, c.loop-b.invariant.1 ∙ nul_next c.loop-b.found c.args.s.now c.loop-b.b-index (search rules))

pub returns : goal.returns
returns c = sym (c.loop-b.invariant.1 ∙ nul_end c.loop-b.found c.args.s.now c.loop-b.b-index (search rules))
