-- The prelude, as document 01's "Bytes on the wire" has it, and the verdict on it.
-- Assumes nothing.
use Rattle.std.specs.Prelude.{ℕ, ◌-◌, refl, Bool, false, ◌&&◌, cond, List, [], ◌∷◌, length, leb, ltb, Result, Ok, Err}
use Rattle.refusal.specs.declared.Refusal.{Refusal}
use Rattle.codec.specs.Codec.{Res, ok, refuse, value}
use Rattle.codec.proofs.Format.{Format, fixed, num_test, ◌then◌, named}
use Rattle.prelude.specs.declared.Stage.{Stage}
use Rattle.prelude.specs.declared.Stage.TheVariants.{Needs, Whole}

-- what eight bytes say: the version, and the length of the block after them
pub record Prelude : Type 0 where
  pub version : ℕ
  pub len : ℕ

-- 44 42 4E, as one number; another byte is 10, at the first of the three
unfoldable pub magic : Format (Unit {0}) false
magic = fixed 10 10 3 (value (68 ∷ 66 ∷ 78 ∷ []))

-- versions 1 to 4; another is 11
abbrev pub is_version : ℕ → Bool
is_version v = leb 1 v && leb v 4

-- magic, version, u32 block length; a length below 100 is 12
unfoldable pub prelude : Format Prelude false
prelude = named
    (λ z. record { version = z.1.0; len = z.1.1 })
    (λ p. (tt, (p.version, p.len)))
    (λ x. refl)
    (magic then num_test is_version 11 11 1 then num_test (leb 100) 12 12 4)

-- what was read of it, as a stage
abbrev pub said : Res Prelude → Result Stage Refusal
said (ok p j) = Ok (Whole p.version p.len)
said (refuse k) = Err k

-- what refuses a prelude
abbrev pub prelude_numbers : List ℕ
prelude_numbers = 10 ∷ 11 ∷ 12 ∷ []

-- THE VERDICT on a prelude: what is missing of its eight bytes; with eight held 10, 11, 12, or the version and the length
unfoldable pub prelude_of : List ℕ → Result Stage Refusal
prelude_of s = cond (ltb (length s) 8) (Ok (Needs (8 - length s))) (said (prelude.codec.parse 0 s 0))

-- a stage's refusal number; 0 where it is none
abbrev pub stage_number : Result Stage Refusal → ℕ
stage_number (Ok (Needs n)) = 0
stage_number (Ok (Whole v len)) = 0
stage_number (Err e) = e.number
