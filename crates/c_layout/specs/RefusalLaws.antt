-- Which numbers the C functions of a layout give.
-- Assumes nothing.
use Rattle.std.specs.Prelude.{ℕ, ◌/◌, ◌≡◌, refl, List, ◌∷◌, length, Ok, Err}
use Rattle.std.proofs.Common.{sym, subst}
use Rattle.refusal.specs.declared.Refusal.{Refusal}
use Rattle.codec.specs.Refusals.{In}
use Rattle.codec.proofs.RefusalLaws.{in_more, gives_is}
use Rattle.layout.specs.Answers.{Answer, Verdict, verdict, judge, layout_number, verdict_number}
use Rattle.layout.specs.declared.ReadError.TheVariants.{Refused, Short}
use Rattle.layout.specs.RefusalLaws.{judge-refused}
use Rattle.rules.specs.Rules.{ruled_numbers, ruled_of}
use Rattle.rules.proofs.RefusalLaws.{ruled_gives, ruled-refuses}
use Rattle.writer.specs.Write.{Written, write_numbers, write_layout, written_number}
use Rattle.writer.proofs.RefusalLaws.{answer-refuses}
use Rattle.c_layout.specs.Numbers.{LayoutC, LayoutPlainC, WriteC}

-- dbn_layout: 0, 3 or a refusal of the layout or its rules
pub layout-number : (s : List ℕ) (w : ℕ) (sheet t o : List ℕ) (r : ℕ) (t' o' : List ℕ) → LayoutC s w sheet t o r t' o' → In (0 ∷ 3 ∷ ruled_numbers) r
layout-number s w sheet t o r t' o' p =
    subst (In (0 ∷ 3 ∷ ruled_numbers)) (sym p.number)
    (go (judge (length t / 9) (ruled_of sheet w s)) (λ k e. gives_is (In ruled_numbers) (ruled_gives sheet w s) (judge-refused (length t / 9) (ruled_of sheet w s) e)))
  where
    go : (a : Answer) → ((k : Refusal) → Err (Refused k) ≡ a → In ruled_numbers k.number) → In (0 ∷ 3 ∷ ruled_numbers) (layout_number a)
    go (Ok a) h = refl
    go (Err (Short a)) h = refl
    go (Err (Refused k)) h = in_more ruled_numbers (0 ∷ 3 ∷ ruled_numbers) refl k.number (h k refl)

-- dbn_layout_plain: the same without 3
pub layout-plain-number : (s : List ℕ) (w : ℕ) (sheet o : List ℕ) (r : ℕ) (o' : List ℕ) → LayoutPlainC s w sheet o r o' → In (0 ∷ ruled_numbers) r
layout-plain-number s w sheet o r o' p = subst (In (0 ∷ ruled_numbers)) (sym p.number) (go (verdict (ruled_of sheet w s)) (λ k e. ruled-refuses sheet w s e))
  where
    go : (a : Verdict) → ((k : Refusal) → Err k ≡ a → In ruled_numbers k.number) → In (0 ∷ ruled_numbers) (verdict_number a)
    go (Ok a) h = refl
    go (Err k) h = in_more ruled_numbers (0 ∷ ruled_numbers) refl k.number (h k refl)

-- dbn_write_layout: 0 or the writer's refusal
pub write_number : (rows text : List ℕ) (v w : ℕ) (sheet u o : List ℕ) (r : ℕ) (u' o' : List ℕ) → WriteC rows text v w sheet u o r u' o' → In (0 ∷ write_numbers) r
write_number rows text v w sheet u o r u' o' p =
    subst (In (0 ∷ write_numbers)) (sym p.number) (go (write_layout sheet w v rows text (length u)) (λ k e. answer-refuses sheet w v rows text (length u) e))
  where
    go : (a : Written) → ((k : Refusal) → a ≡ Err k → In write_numbers k.number) → In (0 ∷ write_numbers) (written_number a)
    go (Ok n) h = refl
    go (Err k) h = in_more write_numbers (0 ∷ write_numbers) refl k.number (h k refl)
