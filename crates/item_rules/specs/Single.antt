-- Two answers that meet the public promise are equal. Assumes nothing.
use Rattle.std.specs.Prelude.{ℕ, ◌≡◌, Bool, List, Result}
use Rattle.std.proofs.Common.{sym, ◌∙◌}
use Rattle.refusal.specs.declared.Refusal.{Refusal}
use Rattle.codec.specs.Telling.{passed}
use Rattle.item_rules.specs.Standing.{items_fault}

pub check_items_one : (sheet : List ℕ) (width labels : ℕ) (l t : List ℕ) (rows : Bool) (n k : ℕ) {r r' : Result (Unit {0}) Refusal} → r ≡ passed (items_fault sheet width labels l t rows n k) → r' ≡ passed (items_fault sheet width labels l t rows n k) → r ≡ r'
check_items_one sheet width labels l t rows n k e f = e ∙ sym f
