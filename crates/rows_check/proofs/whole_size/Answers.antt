-- Each way out has its law.
-- Assumes nothing.
use Rattle.std.proofs.Common.{sym, ◌∙◌, ◌≤◌, ◌<◌}
use borrow.Author.Tests.{ltb-true, ltb-false}
use Rattle.std.proofs.lemmas.Result.{err_from_is_err_and}
use Rattle.rows_check.specs.CheckLaws.{formed}
use Rattle.rows_check.specs.AnswerLaws.{good_91, good_92, good_93}
use Rattle.rows_check.specs.SectionLaws.{record_sections, struct_sections, label_def_sections}
use Rattle.rows_check.proofs.WalkLaws.{rises-before, label_defs_inside}
use Rattle.rows_check.proofs.SizeLaws.{exit_91, exit_92, exit_93, exit_94, exit_95, done}
use Rattle.rows_check.proofs.whole_size.Goals as goal

pub counts_fit-requires : goal.counts_fit-requires
counts_fit-requires c = record { counts = c.requires.counts; all_good = good_91 _ _ _ c.requires.judged }

pub returns-in_err-holds : goal.returns-in_err-holds
returns-in_err-holds c =
    let p = err_from_is_err_and c.from_residual.result c.from_residual.ensures.1 in
    let h = c.in_err-holds.ensures in
    p.1 ∙ rw (p.2, h.1) (exit_91 _ _ c.requires.formed (sym c.counts_fit.ensures ∙ h.0))

pub all_pass-requires : goal.all_pass-requires
all_pass-requires c = good_92 _ _ _ c.requires.judged

pub returns-in_err-holds-2 : goal.returns-in_err-holds-2
returns-in_err-holds-2 c =
    let p = err_from_is_err_and c.from_residual-in_err-holds-2.result c.from_residual-in_err-holds-2.ensures.1 in
    let h = c.in_err-holds-2.ensures in
    p.1 ∙ rw (p.2, h.1) (exit_92 _ _ c.requires.formed (sym c.counts_fit.ensures ∙ c.in_ok-holds.ensures) (sym c.all_pass.ensures ∙ h.0))

pub all_pass-requires-2 : goal.all_pass-requires-2
all_pass-requires-2 c = good_93 _ _ _ c.requires.judged

pub returns-in_err-holds-3 : goal.returns-in_err-holds-3
returns-in_err-holds-3 c =
    let p = err_from_is_err_and c.from_residual-in_err-holds-3.result c.from_residual-in_err-holds-3.ensures.1 in
    let h = c.in_err-holds-3.ensures in
    p.1 ∙ rw (p.2, h.1) (exit_93 _ _ c.requires.formed (sym c.counts_fit.ensures ∙ c.in_ok-holds.ensures) (sym c.all_pass.ensures ∙ c.in_ok-holds-2.ensures) (sym c.all_pass-2.ensures ∙ h.0))

pub total_size-counted-requires : goal.total_size-counted-requires
total_size-counted-requires c = let w = formed _ _ c.requires.formed in record { counts = c.requires.counts; sections = record_sections _ _ w; struct_sections = struct_sections _ _ w; label_sections = label_def_sections _ _ w }

pub returns-in_err-holds-4 : goal.returns-in_err-holds-4
returns-in_err-holds-4 c =
    let p = err_from_is_err_and c.from_residual-in_err-holds-4.result c.from_residual-in_err-holds-4.ensures.1 in
    let h = c.in_err-holds-4.ensures in
    let large : 4294967296 ≤ c.total_size-counted.result.size = ltb-false _ _ h.0 in
    p.1 ∙ rw (p.2, h.1) (exit_94 _ _ c.requires.formed (sym c.counts_fit.ensures ∙ c.in_ok-holds.ensures) (sym c.all_pass.ensures ∙ c.in_ok-holds-2.ensures)
    (sym c.all_pass-2.ensures ∙ c.in_ok-holds-3.ensures) c.total_size-counted.result.size c.total_size-counted.ensures.0 large)

pub labels_rise-requires : goal.labels_rise-requires
labels_rise-requires c =
    let w = formed _ _ c.requires.formed in
    rw c.total_size-counted.ensures.1 record { from_bound = label_defs_inside _ _ w; risen = rises-before _ _ w }

pub returns-in_err-holds-5 : goal.returns-in_err-holds-5
returns-in_err-holds-5 c =
    let p = err_from_is_err_and c.from_residual-in_err-holds-5.result c.from_residual-in_err-holds-5.ensures.1 in
    let h = c.in_err-holds-5.ensures in
    let small : c.total_size-counted.result.size < 4294967296 = ltb-true _ _ c.in_ok-holds-4.ensures in
    p.1 ∙ rw (p.2, h.1) (exit_95 _ _ c.requires.formed (sym c.counts_fit.ensures ∙ c.in_ok-holds.ensures) (sym c.all_pass.ensures ∙ c.in_ok-holds-2.ensures)
    (sym c.all_pass-2.ensures ∙ c.in_ok-holds-3.ensures) c.total_size-counted.result.size c.total_size-counted.ensures.0 small (sym c.labels_rise.ensures ∙ h.0))

pub returns : goal.returns
returns c =
    let small : c.total_size-counted.result.size < 4294967296 = ltb-true _ _ c.in_ok-holds-4.ensures in
    done _ _ c.requires.formed (sym c.counts_fit.ensures ∙ c.in_ok-holds.ensures) (sym c.all_pass.ensures ∙ c.in_ok-holds-2.ensures)
    (sym c.all_pass-2.ensures ∙ c.in_ok-holds-3.ensures) c.total_size-counted.result.size c.total_size-counted.ensures.0 small (sym c.labels_rise.ensures ∙ c.in_ok-holds-5.ensures) c.requires.counts
