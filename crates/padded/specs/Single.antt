-- Each public promise allows one answer: two results that meet it are equal.
-- Assumes nothing.
use Rattle.std.specs.Prelude.{Result, ◌≡◌, Bool, ◌&&◌, List, ℕ, ◌/◌, length}
use Rattle.std.proofs.Common.{sym, ◌∙◌}
use Rattle.text.specs.Ascii.{ascii}
use Rattle.padded.specs.Padded.{nul_padded, each_padded}
use Rattle.padded.specs.PaddedAnswer.{padded_of}
use Rattle.padded.specs.declared.Fault.{Fault}

-- two values that equal one value are equal
one : {A : Type 0} {x a b : A} → a ≡ x → b ≡ x → a ≡ b
one p q = p ∙ sym q

pub check_padded-one : (s : List ℕ) (a b : Result Unit Fault) → a ≡ padded_of s → b ≡ padded_of s → a ≡ b
check_padded-one s a b = one

pub is-padded-ascii-one : (s : List ℕ) (a b : Bool) → a ≡ (ascii s && nul_padded s) → b ≡ (ascii s && nul_padded s) → a ≡ b
is-padded-ascii-one s a b = one

pub are-padded-ascii-one : (s : List ℕ) (w : ℕ) (a b : Bool) → a ≡ each_padded w (length s / w) s → b ≡ each_padded w (length s / w) s → a ≡ b
are-padded-ascii-one s w a b = one
