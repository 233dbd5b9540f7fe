-- Each way out has its law; what fits is written by sections.
-- Assumes nothing.
use Rattle.std.proofs.Common.{true}
use Rattle.std.proofs.lemmas.Result.{err_from_is_err_and}
use Rattle.rules.specs.RowRuleLaws.{ruled-length, fault-none}
use Rattle.rows_check.specs.LegalLaws.{sound}
use Rattle.rows_check.specs.SectionLaws.{record_sections, struct_sections, label_def_sections}
use Rattle.writer.proofs.WriteLaws.{refused-by_check, refused-short, room_for, written}
use Rattle.writer.proofs.write_layout.Goals as goal

pub returns-in_err-size : goal.returns-in_err-size
returns-in_err-size c =
    let args = c.args in
    let p = err_from_is_err_and c.from_residual.result c.from_residual.ensures.1 in
    rw (p.1, p.2) (refused-by_check args.sheet.now args.width args.version args.rows.now args.text.now args.out.now _ c.in_err-size.ensures)

pub returns-then-out-size : goal.returns-then-out-size
returns-then-out-size c =
    let args = c.args in
    refused-short args.sheet.now args.width args.version args.rows.now args.text.now args.out.now _ c.in_ok-size.ensures c.if-out-size.true

pub put_layout-n-requires : goal.put_layout-n-requires
put_layout-n-requires c =
    let args = c.args in
    let w = ruled-length args.sheet.now args.width true args.rows.now args.text.now _ c.in_ok-size.ensures in
    let f = (sound args.rows.now args.text.now (fault-none _ _ _ _ _ w.0).0).formed in
    let h = room_for args.sheet.now args.width args.version args.rows.now args.text.now args.out.now _ c.in_ok-size.ensures c.if-out-size.false in
    record { counts = (w.1.records, (w.1.structs, w.1.labels)); sections = record_sections _ _ f; struct_sections = struct_sections _ _ f; label_sections = label_def_sections _ _ f; text_in_bounds = h }

pub returns : goal.returns
returns c =
    let args = c.args in
    written args.sheet.now args.width args.version args.rows.now args.text.now args.out.now _ c.in_ok-size.ensures c.if-out-size.false _ _ c.put_layout-n.ensures
