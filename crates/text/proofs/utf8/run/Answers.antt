-- The loop keeps: what is expected after the bytes passed decides the rest as it was decided before them.
-- Assumes nothing.
use mathlib.Core.Path.{◌≡◌, ◌∙◌, ap}
use Prim.Native.Nat.{◌+◌}
use native.Mathlib.Omega.{arith}
use borrow.Author.Rules.{rules}
use lib.ListN.{drop}
use Rattle.text.specs.Utf8.{Expect, goes}
use Rattle.text.specs.States.{meaning}
use Rattle.text.proofs.Goes.{goes_one}
use Rattle.text.proofs.utf8.run.Goals as goal

pub loop-i-preserved : goal.loop-i-preserved
loop-i-preserved c = (
  c.next-st.ensures.state,
  c.loop-i.invariant.1
      ∙ goes_one (meaning c.loop-i.st) c.args.s.now c.loop-i.i (search rules)
      ∙ ap (λ (e : Expect). goes e (drop (c.loop-i.i + 1) c.args.s.now)) c.next-st.ensures.right,
)

pub returns : goal.returns
returns c =
    let args = c.args in
    let done : c.loop-i.i ≡ args.e = omega arith in
    record { still_state = c.loop-i.invariant.0; same = rw done at c.loop-i.invariant.1 }
