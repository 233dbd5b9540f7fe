-- The invariant: the entries left, written from row n on, fill the table as all do. Assumes nothing.
use Rattle.codec.specs.CaseLaws.{left_all, left_next}
use Rattle.codec.specs.Telling.{handed_on}
use borrow.Author.Rules.{rules}
use native.Mathlib.Omega.{arith}
use Prim.Native.Nat.{ℕ}
use mathlib.Core.List.{List}
use Rattle.table.specs.Table.{put_row}
use Rattle.layout.specs.Rows.{head_row}
use Rattle.layout.specs.LayoutOf.{D-is}
use mathlib.Core.Path.{sym, ap, ◌∙◌}
use Rattle.layout.specs.Reader.{entries_at}
use Rattle.numbers.specs.NumberLaws.{past-at}
use Rattle.layout.proofs.Laws.{entries-row, entries-no, entries-end}
use Rattle.table.specs.ReadingLaws.{put-row_as, Going, going, going-row, going-no, going_end}
use Rattle.layout.proofs.members.entries.Goals as goal

pub loop-init : goal.loop-init
loop-init c = rw (left_all c.args.count) (going _ c.requires)

pub overflow_add-k : goal.overflow_add-k
overflow_add-k c = omega (arith, past-at c.take.ensures.1 c.in_ok-next.was)

pub loop-preserved : goal.loop-preserved
loop-preserved c =
    let take = c.take.ensures in
    rw (left_next c.args.count c.loop.counter) (going-row c.loop.invariant (entries-row _ _ _ _ _ (sym D-is) (omega (arith, c.loop-test.true)) (sym take.0 ∙ c.in_ok-next.was))
    (put-row_as (c.entry_row-row.ensures ∙ ap (λ (b : List ℕ). head_row b) c.entry_bytes.ensures) c.put_row.ensures) c.put_row.auto.table (omega (arith, past-at take.1 c.in_ok-next.was)))

pub returns-in_err-next : goal.returns-in_err-next
returns-in_err-next c =
    rw (handed_on c.from_residual.ensures) (going-no c.loop.invariant (entries-no _ _ _ _ _ (sym D-is) (omega (arith, c.loop-test.true)) (sym c.take.ensures.0 ∙ c.in_err-next.was)))

pub returns : goal.returns
returns c = going_end c.loop.invariant (entries-end _ _ _ _ _ (omega (arith, c.loop-test.false)))
