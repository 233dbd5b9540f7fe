-- A name, a count, then the labels. Assumes nothing.
use Rattle.codec.specs.Telling.{handed_on}
use native.Mathlib.Omega.{arith}
use mathlib.Core.Path.{sym, ◌∙◌}
use Rattle.table.specs.ReadingLaws.{ran_is, ran_on, ran_on-no, ran_row, put-row_as}
use Rattle.numbers.specs.NumberLaws.{past-at}
use Rattle.layout.proofs.Laws.{label_is}
use borrow.Author.Rules.{rules}
use Rattle.layout.proofs.sections.label_body.Goals as goal

pub label_def_row-row-requires : goal.label_def_row-row-requires
label_def_row-row-requires c = omega (arith, past-at c.u16_at.ensures.1 c.in_ok-count.was, past-at c.name_in.ensures.1 c.in_ok-len.was)

pub labels-requires : goal.labels-requires
labels-requires c =
    let pre = c.requires in
    (omega (arith, past-at c.u16_at.ensures.1 c.in_ok-count.was, past-at c.name_in.ensures.1 c.in_ok-len.was, pre.room), pre.marks)

pub returns : goal.returns
returns c = record {
  ran = ran_is (label_is _ _ _) (ran_on _ (sym c.name_in.ensures.0 ∙ c.in_ok-len.was) (ran_on _ (sym c.u16_at.ensures.0 ∙ c.in_ok-count.was)
      (ran_row (put-row_as c.label_def_row-row.ensures c.put_row.ensures) c.labels.ensures.ran)));
  cleared = c.labels.ensures.cleared;
}

pub returns-in_err-count : goal.returns-in_err-count
returns-in_err-count c = rw (handed_on c.from_residual-in_err-count.ensures) (record { ran = ran_is (label_is _ _ _) (ran_on _ (sym c.name_in.ensures.0 ∙ c.in_ok-len.was) (ran_on-no _ (sym c.u16_at.ensures.0 ∙ c.in_err-count.was))); cleared = tt })

pub returns-in_err-len : goal.returns-in_err-len
returns-in_err-len c = rw (handed_on c.from_residual.ensures) (record { ran = ran_is (label_is _ _ _) (ran_on-no _ (sym c.name_in.ensures.0 ∙ c.in_err-len.was)); cleared = tt })
