-- A row of an interval has the numbers of its days. Assumes nothing.
use native.Mathlib.Omega.{arith}
use mathlib.Core.Path.{sym, ◌∙◌, ap₂, subst}
use Prim.Native.Nat.{◌/◌}
use Rattle.dates.specs.Months.{Right, months_after}
use Rattle.dates.specs.MonthLaws.{day-right, right-after}
use Rattle.table.specs.ReadingLaws.{put_as, columns-not}
use Rattle.text.specs.Trim.{trimmed_len}
use Rattle.symbology_format.specs.SymbologyRows.{row6}
use Rattle.symbology_rows.proofs.mappings.put_interval.Goals as goal

pub returns-then-n-table : goal.returns-then-n-table
returns-then-n-table c =
    let args = c.args in
    let first : Right (months_after args.months.now (args.from / 100)) = right-after _ c.requires.right _ (omega arith) in
    let after = subst Right (sym c.day_number_in-x.ensures.1) first in (
      put_as (ap₂ (λ x y. row6 4 args.start (trimmed_len args.symbol.now) x y args.owner) (c.day_number_in-x.ensures.0 ∙ day-right _ c.requires.right _ (omega arith)) (c.day_number_in-y.ensures.0 ∙ day-right _ after _ (omega arith))) c.put_symbol.ensures,
      subst Right (sym c.day_number_in-y.ensures.1) (right-after _ after _ (omega arith)),
    )

pub returns-else-n-table : goal.returns-else-n-table
returns-else-n-table c = (record { is = columns-not _ _ _ _ c.if-n-table.false }, c.requires.right)
