-- Which numbers the check of rows gives.
-- Assumes nothing.
use Rattle.std.specs.Prelude.{ℕ, ◌≡◌, Bool, cond, List, Err}
use Rattle.std.proofs.Math.Path.{refl}
use Rattle.std.proofs.Common.{sym, subst}
use Rattle.std.proofs.Math.Bool.{true, false}
use Rattle.refusal.specs.declared.Refusal.{Refusal}
use Rattle.codec.specs.Refusals.{In, Fault}
use Rattle.rows_check.specs.Tree.{row_count}
use Rattle.rows_check.specs.Check.{well_formed, counts_fit, passes, sizes_fit, labels_rise, fault_numbers, fit_fault, fault}
use Rattle.rows_check.specs.Answers.{sized_of}
use Rattle.rows_check.specs.AnswerLaws.{sized-fault}

module _ (whole : Bool) (rows text : List ℕ) where
  pub check_fault : Fault (In (fault_numbers whole)) (fault whole rows text)
  unfolding fault fit_fault
  check_fault =
      go whole (well_formed rows text) (counts_fit rows text) (passes 92 rows text 0 (row_count rows)) (passes 93 rows text 0 (row_count rows)) (sizes_fit rows text) (labels_rise rows)
    where
      go : (w a b c d e f : Bool) → Fault (In (fault_numbers w)) (cond a (cond w (cond b (cond c (cond d (cond e (cond f 0 95) 94) 93) 92) 91) 0) 90)
      go true false b c d e f n = refl
      go false false b c d e f n = refl
      go false true b c d e f n = absurd (n refl)
      go true true false c d e f n = refl
      go true true true false d e f n = refl
      go true true true true false e f n = refl
      go true true true true true false f n = refl
      go true true true true true true false n = refl
      go true true true true true true true n = absurd (n refl)

  -- what the check's answer refuses with
  pub check_refuses : {k : Refusal} → Err k ≡ sized_of whole rows text → In (fault_numbers whole) k.number
  check_refuses {k} e =
      let (n, f) = sized-fault whole rows text k e in
      subst (λ (r : Refusal). In (fault_numbers whole) r.number) (sym f) (check_fault n)
