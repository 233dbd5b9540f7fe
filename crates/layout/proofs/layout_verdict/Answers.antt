-- Version, then groups, with a table too short for a row. Assumes nothing.
use native.Mathlib.Omega.{arith}
use mathlib.Core.Path.{sym, ◌∙◌}
use Rattle.codec.specs.Telling.{handed_on}
use Rattle.numbers.specs.NumberLaws.{past-at}
use Rattle.layout.proofs.Public.{ver_no, ver_ok, ver_bad, layout_13, layout-no}
use borrow.Author.Rules.{rules}
use Rattle.layout.proofs.layout_verdict.Goals as goal

pub returns-then-layout-gt4294967295 : goal.returns-then-layout-gt4294967295
returns-then-layout-gt4294967295 c = rw c.refuse.ensures (ver_no c.args.light _ (layout_13 c.args.light _ (omega arith)))

pub groups-requires : goal.groups-requires
groups-requires c = omega (arith, past-at c.u16_at.ensures.1 c.in_ok-version.was, c.if-layout-gt4294967295.false)

pub returns : goal.returns
returns c = ver_ok _ _ c.if-layout-gt4294967295.false (sym c.u16_at.ensures.0 ∙ c.in_ok-version.was) c.groups.ensures c.in_ok-rows.was

pub returns-in_err-rows : goal.returns-in_err-rows
returns-in_err-rows c = rw (handed_on c.from_residual-in_err-rows.ensures) (ver_bad _ _ c.if-layout-gt4294967295.false (sym c.u16_at.ensures.0 ∙ c.in_ok-version.was) c.groups.ensures c.in_err-rows.was)

pub returns-in_err-version : goal.returns-in_err-version
returns-in_err-version c =
    let light = c.args.light in
    rw (handed_on c.from_residual.ensures) (ver_no light _ (layout-no light _ c.if-layout-gt4294967295.false (sym c.u16_at.ensures.0 ∙ c.in_err-version.was)))
