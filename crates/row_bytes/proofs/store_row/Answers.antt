-- By the kind of the row: two dates and a text, a text and a count, or a text.
-- Assumes nothing.
use Prim.Native.Nat.{◌<◌}
use native.Mathlib.Omega.{arith}
use mathlib.Core.Path.{◌≡◌, sym, ap, ◌∙◌}
use Rattle.put.specs.OutputLaws.{wrote-is, left-all, left-rest}
use Rattle.dates.specs.Day.{date_of_day}
use Rattle.columns_check.specs.Tree.{kind_of, filled}
use Rattle.columns_check.specs.PrintLaws.{list-row}
use Rattle.row_bytes.specs.RowLaws.{part-is, text-ready, interval-left, other-room, mapping-wrote}
use borrow.Author.Rules.{rules}
use Rattle.row_bytes.proofs.store_row.Goals as goal

pub date-requires : goal.date-requires
date-requires c = omega (arith, c.number_at-x.ensures, c.requires.standing.from (sym c.number_at-kind.ensures ∙ c.if-kind-eq4.true))

pub date-requires-then-kind-eq4 : goal.date-requires-then-kind-eq4
date-requires-then-kind-eq4 c = omega (arith, c.number_at-then-kind-eq4.ensures, c.requires.standing.to (sym c.number_at-kind.ensures ∙ c.if-kind-eq4.true))

pub slice_bounds-put_text-end : goal.slice_bounds-put_text-end
slice_bounds-put_text-end c = omega (arith, c.number_at-start.ensures, c.number_at.ensures, c.requires.standing.span)

pub put_text-requires : goal.put_text-requires
put_text-requires c =
    let args = c.args in
    let k : kind_of args.table.now args.r ≡ 4 = sym c.number_at-kind.ensures ∙ c.if-kind-eq4.true in
    let ready = text-ready (part-is args.table.now args.text.now args.r c.number_at-start.ensures c.number_at.ensures) c.requires.standing (left-all (interval-left args.width args.table.now args.text.now args.r c.requires.room_for k (c.date.ensures ∙ ap date_of_day c.number_at-x.ensures) (c.date-then-kind-eq4.ensures ∙ ap date_of_day c.number_at-then-kind-eq4.ensures) c.put_little-a.ensures c.put_little-b.ensures)) in
    record { part_len_bound = ready.0; room_for = ready.1 }

pub returns-then-kind-eq4 : goal.returns-then-kind-eq4
returns-then-kind-eq4 c =
    let args = c.args in
    let k : kind_of args.table.now args.r ≡ 4 = sym c.number_at-kind.ensures ∙ c.if-kind-eq4.true in
    left-rest (interval-left args.width args.table.now args.text.now args.r c.requires.room_for k (c.date.ensures ∙ ap date_of_day c.number_at-x.ensures) (c.date-then-kind-eq4.ensures ∙ ap date_of_day c.number_at-then-kind-eq4.ensures) c.put_little-a.ensures c.put_little-b.ensures) (wrote-is c.put_text.ensures (ap (filled args.width) (part-is args.table.now args.text.now args.r c.number_at-start.ensures c.number_at.ensures)))

pub slice_bounds-put_text-end-2 : goal.slice_bounds-put_text-end-2
slice_bounds-put_text-end-2 c = omega (arith, c.number_at-start.ensures, c.number_at.ensures, c.requires.standing.span)

pub put_text-a-requires : goal.put_text-a-requires
put_text-a-requires c =
    let args = c.args in
    let ready = text-ready (part-is args.table.now args.text.now args.r c.number_at-start.ensures c.number_at.ensures) c.requires.standing (other-room args.width args.table.now args.text.now args.r c.requires.room_for c.requires.standing.kind (λ e. c.if-kind-eq4.false (c.number_at-kind.ensures ∙ e))) in
    record { part_len_bound = ready.0; room_for = ready.1 }

pub returns-then-kind-eq3 : goal.returns-then-kind-eq3
returns-then-kind-eq3 c =
    let args = c.args in
    mapping-wrote args.width args.table.now args.text.now args.r c.requires.room_for (sym c.number_at-kind.ensures ∙ c.if-kind-eq3.true) c.number_at-x.ensures (wrote-is c.put_text-a.ensures (ap (filled args.width) (part-is args.table.now args.text.now args.r c.number_at-start.ensures c.number_at.ensures))) c.put_little.ensures

pub returns : goal.returns
returns c =
    let args = c.args in
    let h : kind_of args.table.now args.r < 3 = omega (arith, c.requires.standing.kind, c.number_at-kind.ensures, c.if-kind-eq4.false, c.if-kind-eq3.false) in
    wrote-is c.put_text-a.ensures (ap (filled args.width) (part-is args.table.now args.text.now args.r c.number_at-start.ensures c.number_at.ensures) ∙ sym (list-row args.width args.table.now args.text.now args.r h))
