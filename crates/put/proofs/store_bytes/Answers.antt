-- The invariant: what is left to store after the first four. The last four go over what is there of them.
-- Assumes nothing.
use Prim.Native.Nat.{◌+◌, ◌-◌, ◌≤◌}
use native.Mathlib.Omega.{arith}
use mathlib.Core.Path.{◌≡◌, sym, ◌∙◌}
use lib.ListN.{length, drop, length-drop}
use Rattle.put.specs.OutputLaws.{Left, left-start, left_step, left-room, left-all, left-on, left_over, wrote-is, wrote-length}
use Rattle.put.proofs.StoreLaws.{drop-next-four, drop-last-four}
use borrow.Author.Rules.{rules}
use Rattle.put.proofs.store_bytes.Goals as goal

pub store_four-a-requires : goal.store_four-a-requires
store_four-a-requires c = left-room (left-start c.requires) _ (drop-next-four c.args.src.now 0 (omega arith))

pub loop-j-init : goal.loop-j-init
loop-j-init c =
    let l = left_step (left-start c.requires) (drop-next-four c.args.src.now 0 (omega arith)) c.store_four-a.ensures in
    (omega arith, omega arith, left-start (left-all l))

pub store_four-a-requires-in-loop-j : goal.store_four-a-requires-in-loop-j
store_four-a-requires-in-loop-j c =
    left-room c.loop-j.invariant.2 _ (drop-next-four c.args.src.now c.loop-j.j (omega (arith, c.loop-j.invariant.0, c.loop-j-test.true)))

pub loop-j-preserved : goal.loop-j-preserved
loop-j-preserved c =
    let e = drop-next-four c.args.src.now c.loop-j.j (omega (arith, c.loop-j.invariant.0, c.loop-j-test.true)) in
    (c.loop-j.invariant.0, omega (arith, c.loop-j.invariant.0, c.loop-j-test.true), left_step c.loop-j.invariant.2 e c.store_four-a-in-loop-j.ensures)

pub store_four-requires : goal.store_four-requires
store_four-requires c =
    record { fits = omega (arith, c.loop-j.invariant.0, c.requires.fits, c.loop-j.invariant.2.long, wrote-length c.store_four-a.ensures) }

pub shape_of-out : goal.shape_of-out
shape_of-out c = wrote-length c.store_four.ensures ∙ c.loop-j.invariant.2.long ∙ wrote-length c.store_four-a.ensures

pub returns : goal.returns
returns c =
    let src = c.args.src.now in
    let l = left-on (left_step (left-start c.requires) (drop-next-four src 0 (omega (arith, c.loop-j.invariant.0))) c.store_four-a.ensures) c.loop-j.invariant.2 in
    let w = wrote-is c.store_four.ensures (sym (drop-last-four src _ c.loop-j.invariant.0)) in
    left_over l _ (omega (arith, c.loop-j.invariant.0)) (omega (arith, c.loop-j-test.false, c.loop-j.invariant.1, l.ends, length-drop c.loop-j.j src)) w
