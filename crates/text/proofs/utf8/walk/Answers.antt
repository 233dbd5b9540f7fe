-- The loop keeps: what is expected after the bytes passed decides the rest as the start decides the whole.
-- Assumes nothing.
use mathlib.Core.Path.{◌∙◌, refl, sym, ap}
use lib.Seq.{drop-length}
use Rattle.text.specs.Utf8.{goes}
use Rattle.text.specs.States.{meaning}
use borrow.Author.Rules.{rules}
use Rattle.text.proofs.States.{state-zero, ended_at}
use Rattle.text.proofs.utf8.walk.Goals as goal

pub loop-i-init : goal.loop-i-init
loop-i-init c = (search rules, state-zero, refl)

pub loop-i-preserved : goal.loop-i-preserved
loop-i-preserved c = (search rules, c.block-st.ensures.still_state, c.loop-i.invariant.2 ∙ c.block-st.ensures.same)

pub returns : goal.returns
returns c =
    let r = c.run.result in
    sym
    (c.loop-i.invariant.2
    ∙ c.run.ensures.same
    ∙ ap (goes (meaning r)) (drop-length c.args.s.now)
    ∙ ended_at r c.run.ensures.still_state)
