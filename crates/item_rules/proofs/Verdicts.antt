-- The ways out of the verdict on records and structs, over plain lists. Assumes nothing.
use Prim.Native.Nat.{ℕ, ◌+◌, ◌-◌, ◌≤◌, ◌<◌}
use native.Mathlib.Omega.{arith}
use mathlib.Core.Path.{◌≡◌, ◌∙◌}
use mathlib.Core.Bool.{true, false}
use mathlib.Core.List.{List}
use lib.ListN.{length, length-map}
use lib.Seq.{take_all}
use borrow.Author.Tests.{le-leb, lt-leb}
use Rattle.numbers.specs.Numbers.{le16}
use Rattle.item_rules.specs.declared.Place.{Place}
use Rattle.std.specs.Prelude.{Some, None}
use Rattle.item_rules.specs.Rules.{Seq, struct_align, aligns_of, seqs_fault}
use Rattle.item_rules.specs.RowLaws.{rows_cut}
use Rattle.item_rules.specs.Items.{seqs_from, Ready, first_aligns, fault_of}
use Rattle.item_rules.specs.Standing.{stands, Reached, table_records, table_fault, counted_fault, sections_fault}
use Rattle.item_rules.specs.StandingLaws.{stands_good}
use Rattle.item_rules.proofs.Turns.{seqs-length}

pub ready : (l t : List ℕ) (structs records : Place) → stands l t false structs ≡ true → stands l t true records ≡ true → Ready l t structs records
ready l t structs records a b = record { structs-good = stands_good l t false structs a; records-good = stands_good l t true records b }

module _ (sheet : List ℕ) (width : ℕ) (l t : List ℕ) where
  -- ---- in rows

  module _ (labels n k : ℕ) where
    pub table_none : Reached l t true (table_records n) None → 0 ≡ table_fault sheet width labels l t n k
    unfolding table_fault
    table_none v = rw v

    module _ {e : ℕ} (v : Reached l t true (table_records n) (Some e)) where
      pub table-out : Reached l t false (record { rows = true; at = e; left = k }) None → 0 ≡ table_fault sheet width labels l t n k
      unfolding table_fault
      table-out w = rw (v.0, ← v.1, w)

      pub table_done : {q : ℕ} → Reached l t false (record { rows = true; at = e; left = k }) (Some q) → {r : ℕ} → r ≡ fault_of sheet width labels (seqs_from l t false (record { rows = true; at = e; left = k })) (seqs_from l t true (table_records n)) → r ≡ table_fault sheet width labels l t n k
      unfolding table_fault
      table_done w g = rw (v.0, ← v.1, w.0) (g ∙ rows_cut l t sheet width labels e k 0 n)

  -- ---- in a layout's bytes

  -- fewer than 65,536 structs have no more alignments
  few-cut : (labels : ℕ) (structs records : List Seq) → length structs ≤ 65536 → fault_of sheet width labels structs records ≡ seqs_fault sheet width structs records labels
  unfolding fault_of first_aligns seqs_fault
  few-cut labels structs records h =
      let x = length-map structs (λ (q : Seq). struct_align sheet q.entries) in
      rw (take_all 65536 (aligns_of sheet structs) (omega arith))

  module _ (structs records : Place) where
    pub counted-out : Reached l t false structs None → 0 ≡ counted_fault sheet width l t structs records
    unfolding counted_fault
    counted-out w = rw w

    pub counted-done : {q : ℕ} → Reached l t false structs (Some q) → structs.left < 65536 → {labels r : ℕ} → labels ≡ le16 l q → r ≡ fault_of sheet width labels (seqs_from l t false structs) (seqs_from l t true records)
        → r ≡ counted_fault sheet width l t structs records
    unfolding counted_fault
    counted-done w few {labels} el e =
        let n = seqs-length l t false structs in
        rw (w.0, ← w.1, ← el) (e ∙ few-cut labels (seqs_from l t false structs) (seqs_from l t true records) (omega arith))

  module _ {n : ℕ} (en : n ≡ le16 l 2) where
    pub sections-none : Reached l t true (record { rows = false; at = 4; left = n }) None → 0 ≡ sections_fault sheet width l t
    unfolding sections_fault
    sections-none v = rw (← en, v)

    module _ {e : ℕ} (v : Reached l t true (record { rows = false; at = 4; left = n }) (Some e)) where
      pub sections-out : length l - e < 2 → 0 ≡ sections_fault sheet width l t
      unfolding sections_fault
      sections-out g = rw (← en, v.0, ← v.1, lt-leb (e + 2) (length l) (omega arith))

      pub sections-done : 2 ≤ length l - e → {k : ℕ} → k ≡ le16 l e → {r : ℕ} → r ≡ counted_fault sheet width l t (record { rows = false; at = e + 2; left = k }) (record { rows = false; at = 4; left = n })
          → r ≡ sections_fault sheet width l t
      unfolding sections_fault
      sections-done g ek q = rw (← en, v.0, ← v.1, le-leb (e + 2) (length l) (omega arith), ← ek) q
