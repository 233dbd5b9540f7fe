-- Two answers that meet a public promise are equal. Assumes nothing.
use Rattle.std.specs.Prelude.{ℕ, ◌≡◌, Bool, List}
use Rattle.std.proofs.Common.{sym, ◌∙◌}
use Rattle.layout.specs.Answers.{Verdict, verdict}
use Rattle.rows_check.specs.Answers.{Sized}
use Rattle.rules.specs.Rules.{ruled_of}
use Rattle.rules.specs.RowRules.{ruled_rows}

module _ (sheet : List ℕ) (width : ℕ) where
  pub check_layout-one : (s : List ℕ) {r r' : Verdict} → r ≡ verdict (ruled_of sheet width s) → r' ≡ verdict (ruled_of sheet width s) → r ≡ r'
  check_layout-one s e f = e ∙ sym f

  pub check_rows-one : (whole : Bool) (rows text : List ℕ) {r r' : Sized} → r ≡ ruled_rows sheet width whole rows text → r' ≡ ruled_rows sheet width whole rows text → r ≡ r'
  check_rows-one whole rows text e f = e ∙ sym f
