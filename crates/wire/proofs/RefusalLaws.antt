-- Which numbers names and sections give.
-- Assumes nothing.
use Rattle.std.specs.Prelude.{ℕ, ◌+◌, ◌≡◌, Bool, false, List, Err}
use Rattle.std.proofs.Math.Path.{refl}
use Rattle.std.proofs.Math.ListN.{length}
use Rattle.refusal.specs.declared.Refusal.{Refusal}
use Rattle.codec.proofs.Format.{Format, raw}
use Rattle.codec.specs.Refusals.{In}
use Rattle.numbers.specs.RefusalLaws.{got_refuses}
use Rattle.wire.specs.Formats
use Rattle.wire.specs.Formats.{Tests, section, text_of, text}
use Rattle.wire.specs.Reader.{name_at, name_numbers, section_at, section_numbers}

module _ (P : ℕ → Type 0) where
  pub name-numbers : (tests : Tests) → ((k : ℕ) → In name_numbers k → P k) → (Formats.name tests).numbers P
  unfolding Formats.name text text_of
  name-numbers tests h = ((h 50 refl, λ n. ((h 50 refl, h 52 refl), h 53 refl)), (h 50 refl, h 54 refl))

  pub section-numbers : {A : Type 0} (F : Format A false) → ((k : ℕ) → In section_numbers k → P k) → F.numbers P → (section F).numbers P
  unfolding section
  section-numbers F h f = (f, (h 50 refl, (h 51 refl, h 50 refl)))

module _ (s : List ℕ) (at : ℕ) {k : Refusal} where
  pub name-refuses : (tests : Tests) → name_at tests s at ≡ Err k → In name_numbers k.number
  unfolding name_at
  name-refuses tests e =
      got_refuses (In name_numbers) (λ n. length n.text) ((Formats.name tests).codec.parse 0 s at)
      ((Formats.name tests).refuses (In name_numbers) (name-numbers (In name_numbers) tests (λ k i. i)) 0 s at) e

  pub section-refuses : section_at s at ≡ Err k → In section_numbers k.number
  unfolding section_at
  section-refuses e =
      got_refuses (In section_numbers) (λ _. at + 2) ((section (raw 50 0)).codec.parse 0 s at)
      ((section (raw 50 0)).refuses (In section_numbers) (section-numbers (In section_numbers) (raw 50 0) (λ k i. i) refl) 0 s at) e
