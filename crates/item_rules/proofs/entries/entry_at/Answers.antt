-- From rows or from bytes, as the source says. Assumes nothing.
use native.Mathlib.Omega.{arith}
use Rattle.item_rules.specs.EntryLaws.{first-inside, first-row, first-bytes}
use Rattle.item_rules.proofs.entries.entry_at.Goals as goal

pub overflow_add-end : goal.overflow_add-end
overflow_add-end c =
    omega (arith, rw c.if-src.true at (first-inside _ _ c.requires.in_slice c.requires.count_nonzero))

pub offset_bounds-rows-at : goal.offset_bounds-rows-at
offset_bounds-rows-at c =
    omega (arith, rw c.if-src.true at (first-inside _ _ c.requires.in_slice c.requires.count_nonzero))

pub slice_bounds-row_bytes-end : goal.slice_bounds-row_bytes-end
slice_bounds-row_bytes-end c =
    rw c.if-src.true at (first-inside _ _ c.requires.in_slice c.requires.count_nonzero)

pub returns-then-src : goal.returns-then-src
returns-then-src c = first-row _ _ _ _ c.if-src.true c.row_bytes.ensures

pub overflow_add-end-2 : goal.overflow_add-end-2
overflow_add-end-2 c =
    omega (arith, rw c.if-src.false at (first-inside _ _ c.requires.in_slice c.requires.count_nonzero))

pub slice_bounds-entry_bytes-end : goal.slice_bounds-entry_bytes-end
slice_bounds-entry_bytes-end c =
    rw c.if-src.false at (first-inside _ _ c.requires.in_slice c.requires.count_nonzero)

pub returns : goal.returns
returns c = first-bytes _ _ _ _ c.if-src.false c.entry_bytes.ensures
