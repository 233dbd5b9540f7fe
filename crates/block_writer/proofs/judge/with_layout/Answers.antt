-- 90 to 95, then 13, then the numbers of the parts.
-- Assumes nothing.
use Rattle.std.proofs.Common.{sym, ◌∙◌, arith, rules}
use Rattle.std.proofs.lemmas.Result.{err_from_is_err_and}
use borrow.Author.Tests.{leb-true, leb-false}
use lib.Dec.{eqb}
use Rattle.codec.specs.Telling.{is_passed}
use Rattle.block_writer.specs.PlanLaws.{ready_narrow16}
use Rattle.block_writer.proofs.StartLaws.{start-fields}
use Rattle.block_writer.proofs.JudgeLaws.{rowed, symbols-most, names-most, names-are, refused-rows, whole, layout-most, too_long, header-stops, layout-stops, names-stop, planned}
use Rattle.block_writer.proofs.judge.with_layout.Goals as goal

pub returns-in_err-size : goal.returns-in_err-size
returns-in_err-size c =
    let p = err_from_is_err_and c.from_residual.result c.from_residual.ensures.1 in
    rw (p.1, p.2) (refused-rows c.requires.ready c.in_err-size.ensures)

pub names_len-names-requires : goal.names_len-names-requires
names_len-names-requires c =
    let w = rowed c.requires.told in
    rw c.number-width.ensures.0 (symbols-most c.requires.ready, (w.few, w.within))

pub overflow_add-len : goal.overflow_add-len
overflow_add-len c =
    let l = layout-most c.args.rows.now c.args.text.now c.in_ok-size.ensures (eqb c.args.version 4) c.layout_len-layout.ensures in
    search rules

pub overflow_add-len-2 : goal.overflow_add-len-2
overflow_add-len-2 c =
    let l = layout-most c.args.rows.now c.args.text.now c.in_ok-size.ensures (eqb c.args.version 4) c.layout_len-layout.ensures in
    let y = c.length_len.ensures.1 in
    search rules

pub overflow_add-len-3 : goal.overflow_add-len-3
overflow_add-len-3 c =
    let l = layout-most c.args.rows.now c.args.text.now c.in_ok-size.ensures (eqb c.args.version 4) c.layout_len-layout.ensures in
    let y = c.length_len.ensures.1 in
    let m = names-most c.requires.ready in
    let names = rw c.number-width.ensures.0 at c.names_len-names.ensures in
    let e = names ∙ names-are c.requires.told in
    search rules

pub returns-in_err-holds : goal.returns-in_err-holds
returns-in_err-holds c =
    let p = err_from_is_err_and c.from_residual-in_err-holds.result c.from_residual-in_err-holds.ensures.1 in
    let h = c.in_err-holds.ensures in
    let names = rw c.number-width.ensures.0 at c.names_len-names.ensures in
    rw (p.1, p.2, h.1) (too_long c.args.sheet.now c.args.rows.now c.requires.ready c.number-width.ensures.1 (λ i. omega (arith, c.type_inv.text i)) c.in_ok-size.ensures c.layout_len-layout.ensures c.length_len.ensures.0 c.requires.told names (leb-false _ _ h.0))

pub header_fault-requires : goal.header_fault-requires
header_fault-requires c = (start-fields c.requires.ready).0

pub returns-in_err-header_fault : goal.returns-in_err-header_fault
returns-in_err-header_fault c =
    let p = err_from_is_err_and c.from_residual-in_err-header_fault.result c.from_residual-in_err-header_fault.ensures.1 in
    let names = rw c.number-width.ensures.0 at c.names_len-names.ensures in
    rw (p.1, p.2) (header-stops c.args.sheet.now c.args.rows.now c.requires.ready c.number-width.ensures.1 (λ i. omega (arith, c.type_inv.text i)) c.in_ok-size.ensures c.layout_len-layout.ensures c.length_len.ensures.0 c.requires.told names (leb-true _ _ c.in_ok-holds.ensures) c.in_err-header_fault.ensures)

pub overflow_cast-width : goal.overflow_cast-width
overflow_cast-width c = let h = ready_narrow16 c.requires.ready in let e = c.number-width.ensures.0 in search rules

pub layout_fault-requires : goal.layout_fault-requires
layout_fault-requires c = whole c.args.rows.now c.args.text.now c.in_ok-size.ensures

pub returns-in_err-layout_fault : goal.returns-in_err-layout_fault
returns-in_err-layout_fault c =
    let p = err_from_is_err_and c.from_residual-in_err-layout_fault.result c.from_residual-in_err-layout_fault.ensures.1 in
    let names = rw c.number-width.ensures.0 at c.names_len-names.ensures in
    let ruled = rw c.number-width.ensures.0 at c.layout_fault.ensures in
    rw (p.1, p.2) (layout-stops c.args.sheet.now c.args.rows.now c.requires.ready c.number-width.ensures.1 (λ i. omega (arith, c.type_inv.text i)) c.in_ok-size.ensures c.layout_len-layout.ensures c.length_len.ensures.0 c.requires.told names (leb-true _ _ c.in_ok-holds.ensures) (is_passed _ c.in_ok-header_fault.ensures) (sym c.in_err-layout_fault.was ∙ ruled))

pub returns-in_err-counts : goal.returns-in_err-counts
returns-in_err-counts c =
    let p = err_from_is_err_and c.from_residual-in_err-counts.result c.from_residual-in_err-counts.ensures.1 in
    let names = rw c.number-width.ensures.0 at c.names_len-names.ensures in
    let ruled = rw c.number-width.ensures.0 at c.layout_fault.ensures in
    rw (p.1, p.2) (names-stop c.args.sheet.now c.args.rows.now c.requires.ready c.number-width.ensures.1 (λ i. omega (arith, c.type_inv.text i)) c.in_ok-size.ensures c.layout_len-layout.ensures c.length_len.ensures.0 c.requires.told names (leb-true _ _ c.in_ok-holds.ensures) (is_passed _ c.in_ok-header_fault.ensures) (is_passed _ (sym c.in_ok-layout_fault.was ∙ ruled)) (sym c.in_err-counts.was))

pub returns : goal.returns
returns c =
    let names = rw c.number-width.ensures.0 at c.names_len-names.ensures in
    let ruled = rw c.number-width.ensures.0 at c.layout_fault.ensures in
    planned c.args.sheet.now c.args.rows.now c.requires.ready c.number-width.ensures.1 (λ i. omega (arith, c.type_inv.text i)) c.in_ok-size.ensures c.layout_len-layout.ensures c.length_len.ensures.0 c.requires.told names (leb-true _ _ c.in_ok-holds.ensures) (is_passed _ c.in_ok-header_fault.ensures) (is_passed _ (sym c.in_ok-layout_fault.was ∙ ruled)) (sym c.in_ok-counts.was)
