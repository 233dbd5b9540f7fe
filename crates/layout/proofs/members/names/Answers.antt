-- The invariant: the names left, written from row n on, fill the table as all do. Assumes nothing.
use Rattle.codec.specs.CaseLaws.{left_all, left_next}
use Rattle.codec.specs.Telling.{handed_on}
use borrow.Author.Rules.{rules}
use native.Mathlib.Omega.{arith}
use mathlib.Core.Path.{sym, ◌∙◌}
use Rattle.table.specs.Table.{put_row}
use Rattle.layout.specs.Reader.{names_at}
use Rattle.numbers.specs.NumberLaws.{past-at}
use Rattle.layout.proofs.Laws.{names-row, names-no, names-end}
use Rattle.table.specs.ReadingLaws.{put-row_as, Going, going, going-row, going-no, going_end}
use Rattle.layout.proofs.members.names.Goals as goal

pub loop-init : goal.loop-init
loop-init c = rw (left_all c.args.count) (going _ c.requires)

pub overflow_add-p : goal.overflow_add-p
overflow_add-p c = omega (arith, past-at c.name_in.ensures.1 c.in_ok-len.was)

pub overflow_add-base : goal.overflow_add-base
overflow_add-base c = omega (arith, past-at c.name_in.ensures.1 c.in_ok-len.was)

pub name_row-row-requires : goal.name_row-row-requires
name_row-row-requires c = omega (arith, past-at c.name_in.ensures.1 c.in_ok-len.was)

pub overflow_add-k : goal.overflow_add-k
overflow_add-k c = omega (arith, past-at c.name_in.ensures.1 c.in_ok-len.was)

pub loop-preserved : goal.loop-preserved
loop-preserved c =
    let name-at = c.name_in.ensures in
    rw (left_next c.args.count c.loop.counter) (going-row c.loop.invariant (names-row _ _ _ _ _ (omega (arith, c.loop-test.true)) (sym name-at.0 ∙ c.in_ok-len.was))
    (put-row_as c.name_row-row.ensures c.put_row.ensures) c.put_row.auto.table (omega (arith, past-at name-at.1 c.in_ok-len.was)))

pub returns-in_err-len : goal.returns-in_err-len
returns-in_err-len c =
    rw (handed_on c.from_residual.ensures) (going-no c.loop.invariant (names-no _ _ _ _ _ (omega (arith, c.loop-test.true)) (sym c.name_in.ensures.0 ∙ c.in_err-len.was)))

pub returns : goal.returns
returns c = going_end c.loop.invariant (names-end _ _ _ _ _ (omega (arith, c.loop-test.false)))
