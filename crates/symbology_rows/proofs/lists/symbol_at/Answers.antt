-- The bytes are there; where texts are tested, what was told of them decides. Assumes nothing.
use Rattle.std.proofs.Common.{sym, ◌∙◌, arith}
use Rattle.padded.specs.PaddedAnswerLaws.{padded-ascii, told-fine, told-not-utf8, told-after_nul}
use Rattle.numbers.specs.Numbers.{refused}
use Rattle.numbers.specs.NumberLaws.{past-mk}
use Rattle.symbology_rows.proofs.ReaderLaws.{sym_why, sym_light, sym_not, sym_after, sym_ok}
use Rattle.symbology_rows.proofs.lists.symbol_at.Goals as goal
use Rattle.symbology_rows.proofs.lists.symbol_at.Goals.{then-light-via-then-light, then-light-via-else-light+then-is_padded_ascii}

pub returns-then-width-left : goal.returns-then-width-left
returns-then-width-left c = (sym_why _ _ _ _ _ _ _ (omega arith), refused)

-- no test, or all in one walk
pub returns-then-light : goal.returns-then-light
returns-then-light c =
    elim c.then-light.branch [
      | then-light-via-then-light w ↦ (sym_light _ _ _ _ _ _ _ c.requires (omega arith) w.if-light.true, past-mk (omega arith) (omega arith) (omega arith))
      | then-light-via-else-light+then-is_padded_ascii w ↦ (sym_ok _ _ _ _ _ _ _ c.requires (omega arith) w.if-light.false (padded-ascii _ (sym w.if-is_padded_ascii.true ∙ w.is_padded_ascii.ensures)), past-mk (omega arith) (omega arith) (omega arith))
    ]

pub returns-in-Ok : goal.returns-in-Ok
returns-in-Ok c = (sym_ok _ _ _ _ _ _ _ c.requires (omega arith) c.if-light.false (told-fine _ (sym c.in-Ok.is ∙ c.check_padded.ensures)), past-mk (omega arith) (omega arith) (omega arith))

pub returns-in-Err-NotUtf8 : goal.returns-in-Err-NotUtf8
returns-in-Err-NotUtf8 c = (sym_not _ _ _ _ _ _ _ c.requires (omega arith) c.if-light.false (told-not-utf8 _ (sym (rw c.in-Err-NotUtf8.field-0-is at c.in-Err-NotUtf8.is) ∙ c.check_padded.ensures)), refused)

pub returns-in-Err-AfterNul : goal.returns-in-Err-AfterNul
returns-in-Err-AfterNul c = (sym_after _ _ _ _ _ _ _ c.requires (omega arith) c.if-light.false (told-after_nul _ (sym (rw c.in-Err-AfterNul.field-0-is at c.in-Err-AfterNul.is) ∙ c.check_padded.ensures)), refused)
