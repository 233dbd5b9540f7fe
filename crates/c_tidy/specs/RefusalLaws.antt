-- Which numbers the C function gives. Assumes nothing.
use Rattle.std.specs.Prelude.{ℕ, ◌≡◌, refl, List, ◌∷◌, Ok, Err}
use Rattle.std.proofs.Common.{sym, subst}
use Rattle.refusal.specs.declared.Refusal.{Refusal}
use Rattle.codec.specs.Refusals.{In}
use Rattle.codec.proofs.RefusalLaws.{in_more}
use Rattle.tidy.specs.Tidy.{Tidy, tidy_of, tidy_number, tidy_numbers}
use Rattle.tidy.proofs.RefusalLaws.{tidy_refuses}
use Rattle.c_tidy.specs.Numbers.{TidyC}

-- dbn_tidy: 0, the reader's refusal, or 120 to 123
pub tidy_number_lem : (s : List ℕ) (w : ℕ) (sheet o : List ℕ) (r : ℕ) (o' : List ℕ) → TidyC s w sheet o r o' → In (0 ∷ tidy_numbers) r
tidy_number_lem s w sheet o r o' p = subst (In (0 ∷ tidy_numbers)) (sym p.number) (go (tidy_of sheet w s) (λ k e. tidy_refuses sheet w s e))
  where
    go : (a : Tidy) → ((k : Refusal) → a ≡ Err k → In tidy_numbers k.number) → In (0 ∷ tidy_numbers) (tidy_number a)
    go (Ok x) h = refl
    go (Err k) h = in_more tidy_numbers (0 ∷ tidy_numbers) refl k.number (h k refl)
