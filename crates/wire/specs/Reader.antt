-- What reading a name or a section at a place of a slice answers, from their formats.
-- Assumes nothing.
use Rattle.std.specs.Prelude.{ℕ, ◌+◌, ◌≤◌, Bool, List, [], ◌∷◌, length, Ok, Err}
use Rattle.refusal.specs.declared.Refusal.{Refusal}
use Rattle.codec.specs.Codec.{fault_of, Codec}
use Rattle.codec.specs.Lenient.{lax}
use Rattle.codec.proofs.Format.{raw}
use Rattle.text.specs.Utf8.{utf8}
use Rattle.numbers.specs.Numbers.{got_of, Got}
use Rattle.wire.specs.Formats
use Rattle.wire.specs.Formats.{Name, Tests, no_nul, section}

-- all that a name's text is asked, with the text crate's UTF-8
abbrev pub all_tests : Tests
all_tests = record { no_nul = no_nul; utf8 = utf8 }

-- the same, or nothing where `light` holds
abbrev pub tests_of : Bool → Tests
tests_of light = record { no_nul = lax light no_nul; utf8 = lax light utf8 }

-- a name whose text passes these tests; and all of them
abbrev pub name_by : Tests → Codec Name
name_by tests = (Formats.name tests).codec

abbrev pub name : Codec Name
name = name_by all_tests

-- the length of a name's text
unfoldable pub name_at : Tests → List ℕ → ℕ → Got
name_at tests s at = got_of (λ n. length n.text) ((name_by tests).parse 0 s at)

-- what refuses a name
abbrev pub name_numbers : List ℕ
name_numbers = 50 ∷ 52 ∷ 53 ∷ 54 ∷ []

-- the number that refuses the bytes t as a name's text, or 0
unfoldable pub text_fault : Tests → List ℕ → ℕ
text_fault tests t = fault_of ((Formats.text_of tests (length t)).codec.parse 0 t 0)

-- where the body of a section starts, and its end: of a section none of whose body is read
unfoldable pub section_at : List ℕ → ℕ → Got
section_at s at = got_of (λ _. at + 2) ((section (raw 50 0)).codec.parse 0 s at)

-- what refuses a section, whatever it holds
abbrev pub section_numbers : List ℕ
section_numbers = 50 ∷ 51 ∷ []

-- a part of s from `at` on
pub data Lies (s : List ℕ) (at : ℕ) : Got → Type 0 where
  lies : {b e : ℕ} → at ≤ b → b ≤ e → e ≤ length s → Lies s at (Ok (b, e))
  outside : {k : Refusal} → Lies s at (Err k)
