-- 11, 110 and 111, then the rest.
-- Assumes nothing.
use Rattle.std.proofs.Common.{sym, ◌∙◌}
use Rattle.std.proofs.lemmas.Result.{err_from_is_err_and}
use Rattle.columns_check.specs.ToldLaws.{told-rows}
use Rattle.header_bytes.specs.Numbers.{width}
use Rattle.block_writer.proofs.JudgeLaws.{unknown, bad-fields, unfit-rows, wide-fields, ready}
use Rattle.block_writer.proofs.judge.judge.Goals as goal

pub returns-in_err-holds : goal.returns-in_err-holds
returns-in_err-holds c =
    let p = err_from_is_err_and c.from_residual.result c.from_residual.ensures.1 in
    let h = c.in_err-holds.ensures in
    rw (p.1, p.2, h.1) (unknown (sym c.is_version.ensures ∙ h.0))

pub returns-in_err-holds-2 : goal.returns-in_err-holds-2
returns-in_err-holds-2 c =
    let p = err_from_is_err_and c.from_residual-in_err-holds-2.result c.from_residual-in_err-holds-2.ensures.1 in
    let h = c.in_err-holds-2.ensures in
    rw (p.1, p.2, h.1) (bad-fields (sym c.is_version.ensures ∙ c.in_ok-holds.ensures) (sym c.are_fit.ensures ∙ h.0))

pub returns-in_err-counts : goal.returns-in_err-counts
returns-in_err-counts c =
    let p = err_from_is_err_and c.from_residual-in_err-counts.result c.from_residual-in_err-counts.ensures.1 in
    rw (p.1, p.2) (unfit-rows (sym c.is_version.ensures ∙ c.in_ok-holds.ensures) (sym c.are_fit.ensures ∙ c.in_ok-holds-2.ensures) _ c.in_err-counts.ensures)

pub returns-in_err-holds-3 : goal.returns-in_err-holds-3
returns-in_err-holds-3 c =
    let p = err_from_is_err_and c.from_residual-in_err-holds-3.result c.from_residual-in_err-holds-3.ensures.1 in
    let h = c.in_err-holds-3.ensures in
    let o = told-rows (width c.args.fields.now) c.args.table.now c.args.count c.args.text.now _ c.in_ok-counts.ensures in
    rw (p.1, p.2, h.1) (wide-fields (sym c.is_version.ensures ∙ c.in_ok-holds.ensures) (sym c.are_fit.ensures ∙ c.in_ok-holds-2.ensures) o.formed (sym c.are_narrow.ensures ∙ h.0))

pub with_layout-requires : goal.with_layout-requires
with_layout-requires c =
    let o = told-rows (width c.args.fields.now) c.args.table.now c.args.count c.args.text.now _ c.in_ok-counts.ensures in
    record {
      ready = ready (sym c.is_version.ensures ∙ c.in_ok-holds.ensures) (sym c.are_fit.ensures ∙ c.in_ok-holds-2.ensures) o.formed o.narrow (sym c.are_narrow.ensures ∙ c.in_ok-holds-3.ensures);
      told = o;
    }
