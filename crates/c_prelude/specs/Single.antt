-- ONE ANSWER, and which numbers it can be.
-- Assumes nothing.
use Rattle.std.specs.Prelude.{ℕ, ◌≡◌, refl, List, ◌∷◌, Result, Ok, Err}
use Rattle.std.proofs.Common.{sym, subst, ◌∙◌}
use Rattle.refusal.specs.declared.Refusal.{Refusal}
use Rattle.codec.specs.Refusals.{In}
use Rattle.codec.proofs.RefusalLaws.{in_more}
use Rattle.prelude.specs.Prelude.{prelude_numbers, prelude_of, stage_number}
use Rattle.prelude.proofs.RefusalLaws.{prelude-refuses}
use Rattle.prelude.specs.declared.Stage.{Stage}
use Rattle.prelude.specs.declared.Stage.TheVariants.{Needs, Whole}
use Rattle.c_prelude.specs.Numbers.{prelude_out}

-- two outcomes of dbn_prelude are equal: number, `out`
pub one-prelude : (s o : List ℕ) (r q : ℕ) (o1 o2 : List ℕ)
    → (r ≡ stage_number (prelude_of s)) × (o1 ≡ prelude_out (prelude_of s) o) → (q ≡ stage_number (prelude_of s)) × (o2 ≡ prelude_out (prelude_of s) o) → (r ≡ q) × (o1 ≡ o2)
one-prelude s o r q o1 o2 f g = (f.0 ∙ sym g.0, f.1 ∙ sym g.1)

-- dbn_prelude: 0 or a prelude's refusal
pub prelude-number : (s : List ℕ) (r : ℕ) → r ≡ stage_number (prelude_of s) → In (0 ∷ prelude_numbers) r
prelude-number s r e = subst (In (0 ∷ prelude_numbers)) (sym e) (go (prelude_of s) refl)
  where
    go : (x : Result Stage Refusal) → prelude_of s ≡ x → In (0 ∷ prelude_numbers) (stage_number x)
    go (Ok (Needs n)) q = refl
    go (Err k) q = in_more prelude_numbers (0 ∷ prelude_numbers) refl k.number (prelude-refuses s q)
    go (Ok (Whole v n)) q = refl
