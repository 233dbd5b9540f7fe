-- Which numbers the rules give, of a layout and of rows.
-- Assumes nothing.
use Rattle.std.specs.Prelude.{ℕ, ◌≤◌, Bool, ◌⊎◌, List, map, length, Err}
use Rattle.std.proofs.Common.{zero-le, arith, inl, inr}
use Rattle.std.proofs.Math.Path.{◌≡◌, refl, sym, subst}
use Rattle.std.proofs.Math.Bool.{true, false}
use Rattle.std.proofs.Math.Dec.{eqb}
use borrow.Author.Tests.{eqb-false}
use Rattle.refusal.specs.declared.Refusal.{Refusal}
use Rattle.codec.specs.Codec.{Res, ok, refuse, refusal, ◌>>=◌, need}
use Rattle.codec.specs.Refusals.{Gives, In, Fault}
use Rattle.codec.proofs.RefusalLaws.{in_more, gives_more, gives_is, gives_then, gives_judged}
use Rattle.wire.specs.Reader.{all_tests}
use Rattle.layout.specs.Layout.{Layout, Parts, from_layout}
use Rattle.layout.specs.LayoutOf.{layout_of}
use Rattle.layout.specs.Answers.{layout_numbers, verdict}
use Rattle.layout.specs.AnswerLaws.{verdict-no}
use Rattle.layout.specs.RefusalLaws.{layout_gives, layout-within}
use Rattle.rows_check.specs.Tree.{tree_of}
use Rattle.rows_check.specs.Check.{fault_numbers, fault}
use Rattle.rows_check.proofs.RefusalLaws.{check_fault}
use Rattle.rows_check.specs.AnswerLaws.{refused-told}
use Rattle.std.specs.Prelude.{Err}
use Rattle.item_rules.specs.Rules.{rule_numbers, struct_seq, record_seq}
use Rattle.item_rules.specs.RefusalLaws.{first-fault, seqs-fault}
use Rattle.rules.specs.Rules.{rules_of, ruled_numbers, ruled_of}
use Rattle.rules.specs.RowRules.{row_rule_numbers, rows_rules, rows_fault, ruled_rows}

module _ (P : ℕ → Type 0) (h : (k : ℕ) → In rule_numbers k → P k) where
  pub rules_fault : (sheet : List ℕ) (width : ℕ) (t : Parts) → Fault P (rules_of sheet width t)
  unfolding rules_of
  rules_fault sheet width t = seqs-fault P h sheet width (map struct_seq t.1.1.0) (map record_seq t.1.0) (length t.1.1.1)

  pub rows-fault : (sheet : List ℕ) (width : ℕ) (rows text : List ℕ) → Fault P (rows_rules sheet width rows text)
  unfolding rows_rules
  rows-fault sheet width rows text = rules_fault sheet width (from_layout (tree_of 0 rows text)).0

module _ (sheet : List ℕ) (width : ℕ) where
  pub ruled_gives : (s : List ℕ) → Gives (In ruled_numbers) (ruled_of sheet width s)
  unfolding ruled_of
  ruled_gives s =
      gives_then (In ruled_numbers) (layout_of s) (λ t j. need (eqb 0 (rules_of sheet width (from_layout t).0)) (rules_of sheet width (from_layout t).0) 0 >>= λ _ _. ok t j)
      (gives_more (In layout_numbers) (In ruled_numbers) (in_more layout_numbers ruled_numbers refl) (layout_of s) (layout_gives all_tests s))
      (λ t j. gives_then (In ruled_numbers) (need (eqb 0 (rules_of sheet width (from_layout t).0)) (rules_of sheet width (from_layout t).0) 0) (λ _ _. ok t j)
      (gives_judged (In ruled_numbers) (rules_of sheet width (from_layout t).0) 0 (rules_fault (In ruled_numbers) (in_more rule_numbers ruled_numbers refl) sheet width (from_layout t).0))
      (λ _ _. tt))

  -- a refusal of the layout, by a number that has a place, or of its rules, by one that has none
  pub ruled_either : (s : List ℕ) {k : Refusal} → ruled_of sheet width s ≡ refuse k → (layout_of s ≡ refuse k) ⊎ ((t : Layout) × (j : ℕ) × (layout_of s ≡ ok t j) × (k ≡ refusal (rules_of sheet width (from_layout t).0) 0) × In rule_numbers k.number)
  unfolding ruled_of
  ruled_either s {k} e = go (layout_of s) e
    where
      by : (t : Layout) (j n : ℕ) (b : Bool) → eqb 0 n ≡ b → (need b n 0 >>= λ _ _. ok t j) ≡ refuse k → (k ≡ refusal n 0) × (n ≡ 0 → ⊥)
      by t j n true q e = absurd (let z : ◌≡◌ {A = ℕ} 0 1 = cc in omega arith)
      by t j n false q e = (let x : refusal n 0 ≡ k = cc in sym x, λ z. eqb-false 0 n q (sym z))

      go : (r : Res Layout) → (r >>= λ t j. need (eqb 0 (rules_of sheet width (from_layout t).0)) (rules_of sheet width (from_layout t).0) 0 >>= λ _ _. ok t j) ≡ refuse k
          → (r ≡ refuse k) ⊎ ((t : Layout) × (j : ℕ) × (r ≡ ok t j) × (k ≡ refusal (rules_of sheet width (from_layout t).0) 0) × In rule_numbers k.number)
      go (refuse m) e = inl e
      go (ok t j) e =
          let n : ℕ = rules_of sheet width (from_layout t).0 in
          let (q, z) = by t j n (eqb 0 n) refl e in
          inr (t, j, refl, q, subst (λ (r : Refusal). In rule_numbers r.number) (sym q) (rules_fault (In rule_numbers) (λ k i. i) sheet width (from_layout t).0 z))

  -- the place of a refusal is within the layout
  pub ruled-within : (s : List ℕ) {k : Refusal} → ruled_of sheet width s ≡ refuse k → k.place ≤ length s
  ruled-within s {k} e = go (ruled_either s e)
    where
      go : (layout_of s ≡ refuse k) ⊎ ((t : Layout) × (j : ℕ) × (layout_of s ≡ ok t j) × (k ≡ refusal (rules_of sheet width (from_layout t).0) 0) × In rule_numbers k.number) → k.place ≤ length s
      go (inl q) = layout-within s q
      go (inr (t, j, q, r, i)) = rw r zero-le

  -- what a verdict on a layout refuses with
  pub ruled-refuses : (s : List ℕ) {k : Refusal} → Err k ≡ verdict (ruled_of sheet width s) → In ruled_numbers k.number
  ruled-refuses s e = gives_is (In ruled_numbers) (ruled_gives s) (verdict-no (ruled_of sheet width s) e)

  -- the number of rows that are refused
  pub rows-refuse : (whole : Bool) (rows text : List ℕ) → Fault (In (row_rule_numbers whole)) (rows_fault sheet width whole rows text)
  unfolding rows_fault
  rows-refuse whole rows text =
      first-fault (In (row_rule_numbers whole)) (fault whole rows text) (rows_rules sheet width rows text)
      (λ n. of_form whole (fault whole rows text) (check_fault whole rows text n))
      (rows-fault (In (row_rule_numbers whole)) (of_rules whole) sheet width rows text)
    where
      of_form : (whole : Bool) (k : ℕ) → In (fault_numbers whole) k → In (row_rule_numbers whole) k
      of_form true = in_more (fault_numbers true) (row_rule_numbers true) refl
      of_form false = in_more (fault_numbers false) (row_rule_numbers false) refl

      of_rules : (whole : Bool) (k : ℕ) → In rule_numbers k → In (row_rule_numbers whole) k
      of_rules true = in_more rule_numbers (row_rule_numbers true) refl
      of_rules false = in_more rule_numbers (row_rule_numbers false) refl

  -- what the verdict on rows refuses with
  pub ruled-rows-refuses : (whole : Bool) (rows text : List ℕ) {k : Refusal} → Err k ≡ ruled_rows sheet width whole rows text → In (row_rule_numbers whole) k.number
  unfolding ruled_rows
  ruled-rows-refuses whole rows text {k} e =
      let (n, f) = refused-told (rows_fault sheet width whole rows text) whole rows text k e in
      subst (λ (r : Refusal). In (row_rule_numbers whole) r.number) (sym f) (rows-refuse whole rows text n)
