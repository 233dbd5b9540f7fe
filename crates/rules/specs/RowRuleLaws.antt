-- The rules over rows see no version; the ways out of a verdict on rows. Assumes nothing.
use Rattle.std.specs.Prelude.{ℕ, ◌≡◌, Bool, List, map, Ok, Err}
use Rattle.std.proofs.Math.Path.{sym, ap}
use Rattle.std.proofs.Common.{◌∙◌}
use borrow.Author.Tests.{ne_eqb}
use Rattle.refusal.specs.declared.Refusal.{Refusal}
use Rattle.codec.specs.Codec.{refusal}
use Rattle.layout.specs.Layout.{from_layout}
use Rattle.rows_check.specs.Tree.{kinds, tree_of}
use Rattle.rows_check.specs.TreeLaws.{tree-records, tree-structs, tree-labels}
use Rattle.rows_check.specs.Check.{fault}
use Rattle.rows_check.specs.CheckLaws.{Formed}
use Rattle.rows_check.specs.Answers.{sized_of, sized_number}
use Rattle.rows_check.specs.AnswerLaws.{Fitted, sized-length, made-is, made_told, refused-told, made-number}
use Rattle.rows_check.specs.declared.Size.{Size}
use Rattle.item_rules.specs.Rules.{seqs_fault, struct_seq, record_seq}
use Rattle.item_rules.specs.Standing.{table_fault}
use Rattle.item_rules.specs.RowLaws.{table_is}
use Rattle.rules.specs.Rules.{rules_of}
use Rattle.item_rules.specs.RuleLaws.{halves}
use Rattle.rules.specs.RowRules.{rows_rules, rows_fault, ruled_rows}

-- the rules see no version
pub rows_rules_lem : (sheet : List ℕ) (width version : ℕ) (rows text : List ℕ) → rows_rules sheet width rows text ≡ rules_of sheet width (from_layout (tree_of version rows text)).0
unfolding rows_rules rules_of
rows_rules_lem sheet width version rows text =
    rw (tree-records version rows text, tree-structs version rows text, tree-labels version rows text, tree-records 0 rows text, tree-structs 0 rows text, tree-labels 0 rows text)

-- they are what the records and structs of well-formed rows give
pub rows_are : (sheet : List ℕ) (width : ℕ) (l t text : List ℕ) → Formed t text → {labels : ℕ} → labels ≡ kinds t 14 → {r : ℕ} → r ≡ table_fault sheet width labels l t (kinds t 10) (kinds t 13)
    → r ≡ rows_rules sheet width t text
unfolding rows_rules rules_of
rows_are sheet width l t text w {labels} n e =
    e ∙ table_is l t text w sheet width labels
    ∙ ap (seqs_fault sheet width (map struct_seq (tree_of 0 t text).structs) (map record_seq (tree_of 0 t text).records)) (n ∙ sym (tree-labels 0 t text))

module _ (sheet : List ℕ) (width : ℕ) (whole : Bool) (rows text : List ℕ) where
  refused : {k : ℕ} → (k ≡ 0 → ⊥) → rows_fault sheet width whole rows text ≡ k → Err (refusal k 0) ≡ ruled_rows sheet width whole rows text
  unfolding ruled_rows
  refused {k} n e = rw (e, ne_eqb 0 k (λ z. n (sym z)))

  -- 90 to 95 come first
  pub ruled_malformed : {k : Refusal} → (fault whole rows text ≡ 0 → ⊥) × (k ≡ refusal (fault whole rows text) 0) → Err k ≡ ruled_rows sheet width whole rows text
  unfolding rows_fault
  ruled_malformed {k} (n, e) = ap Err e ∙ refused n (rw (ne_eqb (fault whole rows text) 0 n))

  pub ruled_broken : {k : ℕ} → fault whole rows text ≡ 0 → k ≡ rows_rules sheet width rows text → (k ≡ 0 → ⊥) → Err (refusal k 0) ≡ ruled_rows sheet width whole rows text
  unfolding rows_fault
  ruled_broken f e n = refused n (rw f (sym e))

  pub ruled-made : {x : Size} {k : ℕ} → Ok x ≡ sized_of whole rows text → k ≡ rows_rules sheet width rows text → k ≡ 0 → Ok x ≡ ruled_rows sheet width whole rows text
  unfolding ruled_rows rows_fault
  ruled-made {x} q e z =
      let v = sized-length whole rows text x q in
      let y = sym e ∙ z in
      rw (v.0, y) (made-is v.1)

  -- what is told of rows that pass
  pub ruled-length : (x : Size) → Ok x ≡ ruled_rows sheet width whole rows text → (rows_fault sheet width whole rows text ≡ 0) × Fitted whole rows text x
  unfolding ruled_rows
  ruled-length x e = made_told (rows_fault sheet width whole rows text) whole rows text x e

  pub ruled-fault : (k : Refusal) → Err k ≡ ruled_rows sheet width whole rows text → (rows_fault sheet width whole rows text ≡ 0 → ⊥) × (k ≡ refusal (rows_fault sheet width whole rows text) 0)
  unfolding ruled_rows
  ruled-fault k e = refused-told (rows_fault sheet width whole rows text) whole rows text k e

  -- no number: neither 90 to 95 nor a rule
  pub fault-none : rows_fault sheet width whole rows text ≡ 0 → (fault whole rows text ≡ 0) × (rows_rules sheet width rows text ≡ 0)
  unfolding rows_fault
  fault-none e = halves (fault whole rows text) (rows_rules sheet width rows text) e

  pub none-fault : fault whole rows text ≡ 0 → rows_rules sheet width rows text ≡ 0 → rows_fault sheet width whole rows text ≡ 0
  unfolding rows_fault
  none-fault f r = rw (f, r)

  -- and the number of the answer is theirs
  pub ruled-number : sized_number (ruled_rows sheet width whole rows text) ≡ rows_fault sheet width whole rows text
  unfolding ruled_rows
  ruled-number = made-number (rows_fault sheet width whole rows text) whole rows text
