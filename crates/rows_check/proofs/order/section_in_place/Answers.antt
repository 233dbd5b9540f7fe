-- The row, its kind, the end, the fields' rows, the names' rows.
-- Assumes nothing.
use Prim.Native.Nat.{◌+◌}
use native.Mathlib.Omega.{arith}
use mathlib.Core.Path.{sym, ◌∙◌}
use borrow.Author.Tests.{eq-eqb, ne_eqb, le-leb, lt-leb}
use Rattle.rows_check.specs.Tree.{row_count}
use Rattle.rows_check.specs.Check.{both, section_in_place}
use Rattle.rows_check.proofs.order.section_in_place.Goals as goal

pub returns-then-nr-q : goal.returns-then-nr-q
unfolding section_in_place both
returns-then-nr-q c = simp (lt-leb (c.args.q + 1) (row_count c.args.rows.now) (omega arith))

pub returns-then-here-kind : goal.returns-then-here-kind
unfolding section_in_place both
returns-then-here-kind c =
    let args = c.args in
    rw (← c.cell_of-here.ensures.0) (simp (le-leb (args.q + 1) (row_count args.rows.now) (omega arith), ne_eqb _ _ c.if-here-kind.true))

pub returns-then-nr-end : goal.returns-then-nr-end
unfolding section_in_place both
returns-then-nr-end c =
    let args = c.args in
    rw (← c.cell_of-here.ensures.0, ← c.names_from-from.ensures.0, ← c.count_of-n.ensures.0) (simp (le-leb (args.q + 1) (row_count args.rows.now) (omega arith), eq-eqb _ _ c.if-here-kind.false, lt-leb _ _ c.if-nr-end.true))

pub returns-then-not-rows_pass : goal.returns-then-not-rows_pass
unfolding section_in_place both
returns-then-not-rows_pass c =
    let args = c.args in
    rw (← c.cell_of-here.ensures.0, ← c.names_from-from.ensures.0, ← c.count_of-n.ensures.0) (simp (le-leb (args.q + 1) (row_count args.rows.now) (omega arith), eq-eqb _ _ c.if-here-kind.false, le-leb _ _ c.if-nr-end.false, sym c.rows_pass.ensures ∙ c.if-not-rows_pass.true))

pub returns : goal.returns
unfolding section_in_place both
returns c =
    let args = c.args in
    rw (← c.cell_of-here.ensures.0, ← c.names_from-from.ensures.0, ← c.count_of-n.ensures.0, ← c.name_kind.ensures) (simp (le-leb (args.q + 1) (row_count args.rows.now) (omega arith), eq-eqb _ _ c.if-here-kind.false, le-leb _ _ c.if-nr-end.false, sym c.rows_pass.ensures ∙ c.if-not-rows_pass.false, c.rows_pass-2.ensures))
