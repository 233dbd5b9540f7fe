-- A number of four bytes; where dates are tested it is one. Assumes nothing.
use Rattle.std.proofs.Common.{sym, subst, ◌∙◌, arith}
use Rattle.codec.proofs.LenientLaws.{lax-out, lax_in}
use Rattle.codec.specs.Telling.{handed_on}
use Rattle.dates.specs.Date.{is_date}
use Rattle.dates.specs.Months.{Right}
use Rattle.dates.specs.MonthLaws.{date-right, right_tested}
use Rattle.numbers.specs.Numbers.{refused}
use Rattle.numbers.specs.NumberLaws.{past-at, past-mk}
use Rattle.symbology_rows.proofs.ReaderLaws.{date-ok, date-bad, date-cut, date_again}
use Rattle.symbology_rows.proofs.mappings.date_at.Goals as goal
use Rattle.symbology_rows.proofs.mappings.date_at.Goals.{then-light-via-then-light, then-light-via-else-light+then-value-last, then-light-via-else-light+else-value-last+then-is_date_in}

pub overflow_cast-value : goal.overflow_cast-value
overflow_cast-value c = omega (arith, past-at c.u32_at.ensures.1 c.in_ok-value.was)

pub returns-then-light : goal.returns-then-light
returns-then-light c =
    let u32-at = c.u32_at.ensures in
    let read = sym u32-at.0 ∙ c.in_ok-value.was in
    let small = past-at u32-at.1 c.in_ok-value.was in
    let past = past-mk small.0 small.1 small.2 in
    elim c.then-light.branch [
      | then-light-via-then-light w ↦ (date-ok _ _ _ _ read (sym (lax-out is_date _ w.if-light.true)), past, subst Right (sym w.months-is) c.requires.right)
      | then-light-via-else-light+then-value-last w ↦ (date-ok _ _ _ _ read (date_again c.args.light w.if-value-last.true c.requires.last_passed), past, subst Right (sym w.months-is) c.requires.right)
      | then-light-via-else-light+else-value-last+then-is_date_in w ↦ (
        date-ok _ _ _ _ read (sym w.if-is_date_in.true ∙ w.is_date_in.ensures.0 ∙ date-right _ c.requires.right _ (omega (arith, small)) ∙ sym (lax_in is_date _ w.if-light.false)),
        past,
        subst Right (sym w.months-is) (subst Right (sym w.is_date_in.ensures.1) (right_tested _ c.requires.right _ (omega (arith, small)))),
      )
    ]

pub returns : goal.returns
returns c =
    let u32-at = c.u32_at.ensures in
    let small = past-at u32-at.1 c.in_ok-value.was in (
      date-bad _ _ _ _ (sym u32-at.0 ∙ c.in_ok-value.was) (sym c.if-is_date_in.false ∙ c.is_date_in.ensures.0 ∙ date-right _ c.requires.right _ (omega (arith, small)) ∙ sym (lax_in is_date _ c.if-light.false)),
      refused,
      subst Right (sym c.is_date_in.ensures.1) (right_tested _ c.requires.right _ (omega (arith, small))),
    )

pub returns-in_err-value : goal.returns-in_err-value
returns-in_err-value c = rw (handed_on c.from_residual.ensures) (date-cut _ _ _ _ (sym c.u32_at.ensures.0 ∙ c.in_err-value.was), refused, c.requires.right)
