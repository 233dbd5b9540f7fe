-- The text, the width, then by the kind.
-- Assumes nothing.
use native.Mathlib.Omega.{arith}
use mathlib.Core.Path.{sym, ◌∙◌}
use Rattle.row_bytes.specs.RowLaws.{outside, wide, stands-interval, stands-other}
use borrow.Author.Rules.{rules}
use Rattle.row_bytes.proofs.stands.Goals as goal

pub returns-then-text-start : goal.returns-then-text-start
returns-then-text-start c =
    let args = c.args in
    sym (outside args.width args.table.now args.text.now args.r (omega (arith, c.number_at-start.ensures, c.number_at-len.ensures, c.if-text-start.true)))

pub returns-then-width-len : goal.returns-then-width-len
returns-then-width-len c =
    let args = c.args in
    sym (wide args.width args.table.now args.text.now args.r (omega (arith, c.number_at-start.ensures, c.number_at-len.ensures, c.if-text-start.false)) (omega (arith, c.number_at-len.ensures, c.if-width-len.true)))

pub returns-then-kind-eq4 : goal.returns-then-kind-eq4
returns-then-kind-eq4 c =
    let args = c.args in
    c.are_days.ensures
    ∙ rw (c.number_at.ensures, c.number_at-then-kind-eq4.ensures)
    (stands-interval args.width args.table.now args.text.now args.r (omega (arith, c.number_at-start.ensures, c.number_at-len.ensures, c.if-text-start.false)) (omega (arith, c.number_at-len.ensures, c.if-width-len.false)) (sym c.number_at-kind.ensures ∙ c.if-kind-eq4.true))

pub returns : goal.returns
returns c =
    let args = c.args in
    rw c.number_at-kind.ensures
    (stands-other args.width args.table.now args.text.now args.r (omega (arith, c.number_at-start.ensures, c.number_at-len.ensures, c.if-text-start.false)) (omega (arith, c.number_at-len.ensures, c.if-width-len.false)) (λ e. c.if-kind-eq4.false (c.number_at-kind.ensures ∙ e)))
