-- The three answers.
-- Assumes nothing.
use mathlib.Core.Path.{sym, ◌∙◌}
use native.Mathlib.Omega.{arith}
use borrow.Author.Tests.{ne_eqb}
use Rattle.padded.specs.PaddedAnswerLaws.{told-fine, told-not-utf8, told-after_nul}
use Rattle.codec.specs.Telling.{passed}
use Rattle.columns_check.proofs.texts.text_fault.Goals as goal

pub returns-in-Ok : goal.returns-in-Ok
unfolding passed
returns-in-Ok c = let (u, p) = told-fine c.args.part.now (sym c.in-Ok.is ∙ c.check_padded.ensures) in rw (u, p)

pub returns-in-Err-NotUtf8 : goal.returns-in-Err-NotUtf8
unfolding passed
returns-in-Err-NotUtf8 c =
    let u = told-not-utf8 c.args.part.now (sym (rw c.in-Err-NotUtf8.field-0-is at c.in-Err-NotUtf8.is) ∙ c.check_padded.ensures) in
    let n = ne_eqb c.args.not_utf8 0 (omega (arith, c.requires)) in
    rw (c.refused.ensures, u, n, n)

pub returns-in-Err-AfterNul : goal.returns-in-Err-AfterNul
unfolding passed
returns-in-Err-AfterNul c =
    let (u, p) = told-after_nul c.args.part.now (sym (rw c.in-Err-AfterNul.field-0-is at c.in-Err-AfterNul.is) ∙ c.check_padded.ensures) in
    let n = ne_eqb c.args.after_nul 0 (omega (arith, c.requires)) in
    rw (c.refused-in-Err-AfterNul.ensures, u, p, n)
