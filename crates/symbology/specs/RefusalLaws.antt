-- Which numbers a symbology gives, and where.
-- Assumes nothing.
use Rattle.std.specs.Prelude.{Result, Err, ℕ, ◌≤◌, ◌≡◌, Bool, List, length, drop}
use Rattle.std.proofs.Math.Path.{refl}
use Rattle.std.proofs.Math.Bool.{true, false}
use Rattle.refusal.specs.declared.Refusal.{Refusal}
use Rattle.codec.specs.Codec.{ok, refuse, ◌>>=◌, need, is_nil}
use Rattle.codec.specs.Refusals.{Gives, In, Within, ends}
use Rattle.codec.proofs.PlaceLaws.{within-is, within-then, within_test}
use Rattle.codec.proofs.RefusalLaws.{in_more, gives_more, gives_is, gives_then, gives_test}
use Rattle.symbology_format.specs.Symbology.{unspanned}
use Rattle.symbology_rows.specs.Reader.{symbology_of}
use Rattle.symbology_rows.specs.RefusalLaws.{rows_numbers, symbology_gives, symbology-within}
use Rattle.symbology.specs.Reader.{section_of}
use Rattle.symbology.specs.ReadLaws.{rows-refused}
use Rattle.symbology.specs.Answers.{symbology_numbers, SectionPromise}
use Rattle.symbology.specs.declared.Section.{Section}

module _ (width base : ℕ) (s : List ℕ) where
  all_give : Gives (In symbology_numbers) (symbology_of width base s)
  all_give = gives_more (In rows_numbers) (In symbology_numbers) (in_more rows_numbers symbology_numbers refl) (symbology_of width base s) (symbology_gives width base s)

  pub section_gives : (spanned : Bool) → Gives (In symbology_numbers) (section_of spanned width base s)
  unfolding section_of
  section_gives true =
      gives_then (In symbology_numbers) (symbology_of width base s) (λ t j. need (is_nil (drop j s)) unspanned j >>= λ _ _. ok t j) all_give
      (λ t j. gives_test (In symbology_numbers) (is_nil (drop j s)) unspanned j (λ _ _. ok t j) refl tt)
  section_gives false = all_give

  -- the contents end within the section, and so does the place of a refusal
  pub section-within : (spanned : Bool) → Within 0 (length s) (section_of spanned width base s)
  unfolding section_of
  section-within true =
      within-then (symbology_of width base s) (λ t j. need (is_nil (drop j s)) unspanned j >>= λ _ _. ok t j) (symbology-within width base s)
      (λ t j a b. within_test (is_nil (drop j s)) unspanned j (λ _ _. ok t j) b (λ _. ends a b))
  section-within false = symbology-within width base s

-- the place of a refusal is within the section
pub section-place-within : (spanned : Bool) (width base : ℕ) (s : List ℕ) {k : Refusal} → section_of spanned width base s ≡ refuse k → k.place ≤ length s
section-place-within spanned width base s e = within-is (section-within width base s spanned) e

-- what a reader's answer refuses with, and that its place is within the section
module _ (spanned : Bool) (width base : ℕ) (s : List ℕ) {write : Bool} {t t' : List ℕ} {r : Result Section Refusal} (p : SectionPromise write (section_of spanned width base s) t t' r) {k : Refusal} (e : r ≡ Err k) where
  pub section-refuses : In symbology_numbers k.number
  section-refuses = gives_is (In symbology_numbers) (section_gives width base s spanned) (rows-refused p e).0

  pub section-refuses-within : k.place ≤ length s
  section-refuses-within = section-place-within spanned width base s (rows-refused p e).0
