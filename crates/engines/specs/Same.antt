-- Two answers that meet one of the promises are equal, so either engine gives the other's answer, number included, for any layout or
-- rows, any width and any sheet. Assumes nothing.
use Rattle.std.specs.Prelude.{ℕ, ◌≡◌, false, List, Result}
use Rattle.std.proofs.Common.{sym, ◌∙◌}
use Rattle.refusal.specs.declared.Refusal.{Refusal}
use Rattle.layout.specs.Answers.{Verdict, verdict}
use Rattle.codec.specs.Telling.{passed}
use Rattle.rules.specs.Rules.{ruled_of}
use Rattle.rules.specs.RowRules.{rows_fault}

-- what `check_layout` answers, and what `check_layout_plain` does
pub layout_engines : (sheet : List ℕ) (width : ℕ) (s : List ℕ) {r plain : Verdict} → r ≡ verdict (ruled_of sheet width s) → plain ≡ verdict (ruled_of sheet width s) → r ≡ plain
layout_engines sheet width s e f = e ∙ sym f

-- what `check_rows` answers, and what `check_rows_plain` does
pub rows_engines : (sheet : List ℕ) (width : ℕ) (rows text : List ℕ) {r plain : Result (Unit {0}) Refusal} → r ≡ passed (rows_fault sheet width false rows text) → plain ≡ passed (rows_fault sheet width false rows text) → r ≡ plain
rows_engines sheet width rows text e f = e ∙ sym f
