-- The rows of an item, or its section, lie within their slice. Assumes nothing.
use native.Mathlib.Omega.{arith}
use Rattle.item_rules.proofs.Walks.{section_bounds, row_bounds, row_next}
use Rattle.item_rules.proofs.walk.next_at.Goals as goal

pub fields_in-n-requires : goal.fields_in-n-requires
fields_in-n-requires c = rw c.if-in_rows.true at c.requires

pub overflow_add-result : goal.overflow_add-result
overflow_add-result c = omega (arith, row_bounds (rw c.if-in_rows.true at c.requires), c.fields_in-n.ensures.0)

pub overflow_add-result-then-in_rows : goal.overflow_add-result-then-in_rows
overflow_add-result-then-in_rows c = omega (arith, row_bounds (rw c.if-in_rows.true at c.requires), c.fields_in-n.ensures.0)

pub overflow_add-result-then-in_rows-2 : goal.overflow_add-result-then-in_rows-2
overflow_add-result-then-in_rows-2 c = omega (arith, row_bounds (rw c.if-in_rows.true at c.requires), c.fields_in-n.ensures.0)

pub returns-then-in_rows : goal.returns-then-in_rows
returns-then-in_rows c = let args = c.args in rw c.if-in_rows.true (row_next args.is_record args.rows.now args.at c.fields_in-n.ensures.0)

pub half-requires : goal.half-requires
half-requires c = omega (arith, section_bounds (rw c.if-in_rows.false at c.requires))

pub overflow_add-result-2 : goal.overflow_add-result-2
overflow_add-result-2 c = let h = rw c.if-in_rows.false at c.requires in omega (arith, h.inside, c.half.ensures.0)

pub returns : goal.returns
returns c = rw (c.if-in_rows.false, ← c.half.ensures.0)
