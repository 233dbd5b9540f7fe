-- A size, a name, then the fields. Assumes nothing.
use Rattle.codec.specs.Telling.{handed_on}
use native.Mathlib.Omega.{arith}
use mathlib.Core.Path.{sym, ◌∙◌}
use Rattle.numbers.specs.NumberLaws.{past-at}
use Rattle.layout.proofs.Laws.{struct_is}
use Rattle.table.specs.ReadingLaws.{ran_is, ran_on, ran_on-no, ran_row, put-row_as}
use borrow.Author.Rules.{rules}
use Rattle.layout.proofs.sections.struct_body.Goals as goal

pub overflow_add-p : goal.overflow_add-p
overflow_add-p c = omega (arith, past-at c.name_in.ensures.1 c.in_ok-len.was)

pub overflow_add-base : goal.overflow_add-base
overflow_add-base c = omega (arith, past-at c.name_in.ensures.1 c.in_ok-len.was)

pub struct_row-row-requires : goal.struct_row-row-requires
struct_row-row-requires c = omega (arith, past-at c.u16_at.ensures.1 c.in_ok-size.was, past-at c.name_in.ensures.1 c.in_ok-len.was, past-at c.u16_at-2.ensures.1 c.in_ok-count.was)

pub fields-requires : goal.fields-requires
fields-requires c = omega (arith, past-at c.name_in.ensures.1 c.in_ok-len.was, c.requires)

pub returns : goal.returns
returns c =
    ran_is (struct_is _ _ _) (ran_on _ (sym c.u16_at.ensures.0 ∙ c.in_ok-size.was)
    (ran_on _ (sym c.name_in.ensures.0 ∙ c.in_ok-len.was)
    (ran_on _ (sym c.u16_at-2.ensures.0 ∙ c.in_ok-count.was)
    (ran_row (put-row_as c.struct_row-row.ensures c.put_row.ensures) c.fields.ensures))))

pub returns-in_err-count : goal.returns-in_err-count
returns-in_err-count c = rw (handed_on c.from_residual-in_err-count.ensures) (ran_is (struct_is _ _ _) (ran_on _ (sym c.u16_at.ensures.0 ∙ c.in_ok-size.was) (ran_on _ (sym c.name_in.ensures.0 ∙ c.in_ok-len.was) (ran_on-no _ (sym c.u16_at-2.ensures.0 ∙ c.in_err-count.was)))))

pub returns-in_err-len : goal.returns-in_err-len
returns-in_err-len c = rw (handed_on c.from_residual-in_err-len.ensures) (ran_is (struct_is _ _ _) (ran_on _ (sym c.u16_at.ensures.0 ∙ c.in_ok-size.was) (ran_on-no _ (sym c.name_in.ensures.0 ∙ c.in_err-len.was))))

pub returns-in_err-size : goal.returns-in_err-size
returns-in_err-size c = rw (handed_on c.from_residual.ensures) (ran_is (struct_is _ _ _) (ran_on-no _ (sym c.u16_at.ensures.0 ∙ c.in_err-size.was)))
