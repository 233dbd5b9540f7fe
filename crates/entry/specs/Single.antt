-- Two answers that meet a public promise are equal. Assumes nothing.
use Rattle.std.specs.Prelude.{ℕ, ◌≡◌, List}
use Rattle.std.proofs.Common.{sym, ◌∙◌}
use Rattle.entry.specs.Entry.{entry_bytes, row_bytes}

pub entry-bytes : (s : List ℕ) (at : ℕ) (r r' : List ℕ) → r ≡ entry_bytes s at → r' ≡ entry_bytes s at → r ≡ r'
entry-bytes s at r r' e f = e ∙ sym f

pub row-bytes : (t : List ℕ) (at : ℕ) (r r' : List ℕ) → r ≡ row_bytes t at → r' ≡ row_bytes t at → r ≡ r'
row-bytes t at r r' e f = e ∙ sym f
