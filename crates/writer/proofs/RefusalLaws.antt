-- Which numbers the writer gives; none is about a byte.
-- Assumes nothing.
use Rattle.std.specs.Prelude.{ℕ, ◌≡◌, Bool, false, cond, List, length, leb, eqb, Ok, Err}
use Rattle.std.proofs.Common.{arith, sym, subst}
use Rattle.std.proofs.Math.Path.{refl}
use Rattle.std.proofs.Math.Bool.{true}
use Rattle.std.proofs.lemmas.Bool.{eqb-false}
use Rattle.refusal.specs.declared.Refusal.{Refusal}
use Rattle.codec.specs.Codec.{refusal}
use Rattle.codec.specs.Refusals.{In, Fault}
use Rattle.codec.proofs.RefusalLaws.{in_more}
use Rattle.rules.specs.RowRules.{row_rule_numbers, rows_fault}
use Rattle.rules.proofs.RefusalLaws.{rows-refuse}
use Rattle.rows_check.specs.Check.{printed}
use Rattle.writer.specs.Write.{Written, roomy, write_numbers, write_layout, Writes}

-- one of these numbers, with place 0
abbrev pub Placeless : List ℕ → Refusal → Type 0
Placeless ns k = In ns k.number × (k.place ≡ 0)

-- by a number that is no refusal where it is 0
pub judged-refuses : (ns : List ℕ) (n : ℕ) (x : Written) {k : Refusal} → Fault (In ns) n → (x ≡ Err k → Placeless ns k) → cond (eqb 0 n) x (Err (refusal n 0)) ≡ Err k → Placeless ns k
judged-refuses ns n x {k} f h e = go (eqb 0 n) refl e
  where
    go : (b : Bool) → eqb 0 n ≡ b → cond b x (Err (refusal n 0)) ≡ Err k → Placeless ns k
    go true z e = h e
    go false z e = let q : refusal n 0 ≡ k = cc in subst (Placeless ns) q (f (λ i. eqb-false 0 n z (sym i)), refl)

-- what is written where there is room, and refused by another number where there is none
pub room-refuses : (ns : List ℕ) (b : Bool) (n m : ℕ) {k : Refusal} → In ns m → cond b (Ok n) (Err (refusal m 0)) ≡ Err k → Placeless ns k
room-refuses ns true n m i e = let z : ◌≡◌ {A = ℕ} 0 1 = cc in absurd (omega arith)
room-refuses ns false n m {k} i e = let q : refusal m 0 ≡ k = cc in subst (Placeless ns) q (i, refl)

module _ (sheet : List ℕ) (width version : ℕ) (rows text : List ℕ) where
  answer_placeless : (room : ℕ) {k : Refusal} → write_layout sheet width version rows text room ≡ Err k → Placeless write_numbers k
  unfolding write_layout
  answer_placeless room e =
      judged-refuses write_numbers (rows_fault sheet width true rows text) (roomy (printed version rows text) room (Ok (length (printed version rows text))))
      (λ n. in_more (row_rule_numbers true) write_numbers refl (rows_fault sheet width true rows text) (rows-refuse sheet width true rows text n))
      (room-refuses write_numbers (leb (length (printed version rows text)) room) (length (printed version rows text)) 96 refl) e

  pub answer-refuses : (room : ℕ) {k : Refusal} → write_layout sheet width version rows text room ≡ Err k → In write_numbers k.number
  answer-refuses room e = (answer_placeless room e).0

  -- what the writer's answer refuses with
  pub write_refuses : (out out' : List ℕ) {k : Refusal} → Writes sheet width version rows text out out' (Err k) → In write_numbers k.number
  write_refuses out out' p = answer-refuses (length out) (sym p.is)

  -- a refusal to write is about no byte
  pub write_placeless : (out out' : List ℕ) {k : Refusal} → Writes sheet width version rows text out out' (Err k) → k.place ≡ 0
  write_placeless out out' p = (answer_placeless (length out) (sym p.is)).1
