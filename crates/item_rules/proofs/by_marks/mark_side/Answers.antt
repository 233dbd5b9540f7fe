-- The invariant: what is left goes on from the marks so far as all goes from none. Assumes nothing.
use native.Mathlib.Omega.{arith}
use mathlib.Core.Path.{sym, ◌∙◌}
use Rattle.item_rules.proofs.Painting.{painting, paint-skip, paint-clash, paint-owner, paint-next, paint-end}
use Rattle.item_rules.proofs.by_marks.mark_side.Goals as goal

pub loop-init : goal.loop-init
loop-init c = (painting _ _ _ _ _ c.requires.in_slice c.requires.enough c.requires.unowned, omega arith)

pub entry_at-e-requires : goal.entry_at-e-requires
entry_at-e-requires c = record { in_slice = c.loop.invariant.0.room; count_nonzero = (omega (arith, c.loop.invariant.1)) }

pub rest-left-requires : goal.rest-left-requires
rest-left-requires c = ((omega (arith, c.loop.invariant.1)), c.loop.invariant.0.room.small)

pub loop-preserved-then-x : goal.loop-preserved-then-x
loop-preserved-then-x c = rw c.rest-left.ensures (paint-skip _ _ _ _ _ c.loop.invariant.0 (omega (arith, c.loop.invariant.1)) c.entry_at-e.ensures (sym c.extent_of-x.ensures.other ∙ c.if-x.true), omega (arith, c.loop.invariant.1))

pub shape_of-owners-then-is_taken : goal.shape_of-owners-then-is_taken
shape_of-owners-then-is_taken c = c.loop.invariant.0.marks.only.long

pub returns-then-is_taken : goal.returns-then-is_taken
returns-then-is_taken c =
    let extent-of = c.extent_of-x.ensures in
    paint-clash _ _ _ _ _ c.loop.invariant.0 (omega (arith, c.loop.invariant.1)) c.entry_at-e.ensures (sym extent-of.other ∙ c.if-x.false) extent-of.off extent-of.end (sym c.is_taken.ensures ∙ c.if-is_taken.true)

pub overflow_add-owner : goal.overflow_add-owner
overflow_add-owner c =
    let extent-of = c.extent_of-x.ensures in
    omega (arith, paint-owner _ _ _ _ _ c.loop.invariant.0 (omega (arith, c.loop.invariant.1)) c.entry_at-e.ensures (sym extent-of.other ∙ c.if-x.false) extent-of.off extent-of.end (sym c.is_taken.ensures ∙ c.if-is_taken.false))

pub loop-preserved : goal.loop-preserved
loop-preserved c =
    let extent-of = c.extent_of-x.ensures in
    rw c.rest-left.ensures (paint-next _ _ _ _ _ c.loop.invariant.0 (omega (arith, c.loop.invariant.1)) c.entry_at-e.ensures (sym extent-of.other ∙ c.if-x.false) extent-of.off extent-of.end (sym c.is_taken.ensures ∙ c.if-is_taken.false) c.give.ensures c.larger-top.ensures, omega (arith, c.loop.invariant.1))

pub shape_of-owners : goal.shape_of-owners
shape_of-owners c = c.loop.invariant.0.marks.only.long

pub returns : goal.returns
returns c = paint-end _ _ _ _ _ c.loop.invariant.0 (omega (arith, c.loop.invariant.1))
