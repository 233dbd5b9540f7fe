-- Which numbers the rules give of records and structs.
-- Assumes nothing.
use Prim.Native.Nat.{ℕ, ◌+◌, ◌%◌}
use Rattle.std.proofs.Math.Path.{refl}
use Rattle.std.proofs.Math.Bool.{Bool, true, false, cond}
use Rattle.std.specs.Prelude.{not, length, get_or, ltb, eqb}
use mathlib.Core.List.{List, [], ◌∷◌}
use Rattle.std.proofs.Math.Dec.{leb}
use Rattle.codec.specs.Codec.{among}
use Rattle.codec.specs.Refusals.{In, Fault}
use Rattle.codec.proofs.RefusalLaws.{in_more, fault-by}
use Rattle.numbers.specs.Numbers.{le16}
use Rattle.fields.specs.Field.{field_numbers, field_fault}
use Rattle.fields.specs.RefusalLaws.{field_fault_lem}
use Rattle.fields.specs.Sheet.{id_of}
use Rattle.plain_tiling.specs.Tile.{Span, sorted, walk}
use Rattle.item_rules.specs.Rules.{first, rule_numbers, Seq, noted, spans, base_fault, ext_fault, tiling_fault, struct_align, fields_fault, seq_fault, struct_fault, record_fault, structs_fault, records_fault, aligns_of, seqs_fault}
use Rattle.item_rules.specs.declared.Place.{Place}
use Rattle.item_rules.specs.Items.{seqs_from, end_from}
use Rattle.item_rules.specs.Standing.{stands, table_records, table_structs, table_fault, section_records, section_structs, counted_fault, sections_fault, items_fault}

module _ (P : ℕ → Type 0) where
  pub first-fault : (a b : ℕ) → Fault P a → Fault P b → Fault P (first a b)
  first-fault a b f g = fault-by P (eqb a 0) b a g f

  -- a number for a broken rule, or what the later rules give
  broken_fault : (b : Bool) (k later : ℕ) → P k → Fault P later → Fault P (cond b k later)
  broken_fault b k later p f = fault-by P b k later (λ _. p) f

  none : Fault P 0
  none z = absurd (z refl)

  walk-fault : (gap : ℕ) (last : ℕ → ℕ) → P gap → ((c : ℕ) → Fault P (last c)) → (c : ℕ) (ss : List Span) → Fault P (walk gap last c ss)
  walk-fault gap last p f c [] = f c
  walk-fault gap last p f c (s ∷ ss) = fault-by P (eqb s.0 c) (walk gap last s.1 ss) gap (walk-fault gap last p f s.1 ss) (λ _. p)

  module _ (h : (k : ℕ) → In rule_numbers k → P k) where
    tiling_fault_lem : (isRecord : Bool) (base : ℕ) (es : List (List ℕ)) → Fault P (tiling_fault isRecord base es)
    unfolding tiling_fault base_fault ext_fault
    tiling_fault_lem isRecord base es =
        first-fault (base_fault isRecord base es) (ext_fault isRecord base es)
        (walk-fault 81 (λ c. cond (eqb c base) 0 82) (h 81 refl) (λ c. fault-by P (eqb c base) 0 82 none (λ _. h 82 refl)) 0 (sorted (spans isRecord base false es)))
        (walk-fault 83 (λ c. 0) (h 83 refl) (λ c. none) base (sorted (spans isRecord base true es)))

    module _ (sheet : List ℕ) (width labels : ℕ) (aligns : List ℕ) where
      fields-fault : (isRecord : Bool) (base : ℕ) (ids : List ℕ) (es : List (List ℕ)) → Fault P (fields_fault sheet width labels aligns isRecord base ids es)
      unfolding fields_fault
      fields-fault isRecord base ids [] = none
      fields-fault isRecord base ids (e ∷ es) =
          first-fault (field_fault sheet width labels aligns isRecord base (among (id_of e) ids) e) (fields_fault sheet width labels aligns isRecord base (noted sheet e ids) es)
          (field_fault_lem P (λ k i. h k (in_more field_numbers rule_numbers refl k i)) sheet width labels aligns isRecord base (among (id_of e) ids) e)
          (fields-fault isRecord base (noted sheet e ids) es)

      seq-fault : (isRecord : Bool) (q : Seq) → Fault P (seq_fault sheet width labels aligns isRecord q)
      unfolding seq_fault
      seq-fault isRecord q =
          first-fault (fields_fault sheet width labels aligns isRecord q.base [] q.entries) (tiling_fault isRecord q.base q.entries)
          (fields-fault isRecord q.base [] q.entries) (tiling_fault_lem isRecord q.base q.entries)

      struct_fault_lem : (q : Seq) → Fault P (struct_fault sheet width labels aligns q)
      unfolding struct_fault
      struct_fault_lem q = broken_fault (not (eqb (q.base % struct_align sheet q.entries) 0)) 60 (seq_fault sheet width labels aligns false q) (h 60 refl) (seq-fault false q)

      record_fault_lem : (twice : Bool) (q : Seq) → Fault P (record_fault sheet width labels aligns twice q)
      unfolding record_fault
      record_fault_lem twice q = go twice (eqb (q.rtype % 256) 78) (ltb q.base (get_or sheet 518 0)) (not (eqb (q.base % 8) 0))
        where
          go : (a b c d : Bool) → Fault P (cond a 61 (cond b 62 (cond c 63 (cond d 64 (seq_fault sheet width labels aligns true q)))))
          go true b c d n = h 61 refl
          go false true c d n = h 62 refl
          go false false true d n = h 63 refl
          go false false false true n = h 64 refl
          go false false false false n = seq-fault true q n

      structs-fault : (qs : List Seq) → Fault P (structs_fault sheet width labels aligns qs)
      unfolding structs_fault
      structs-fault [] = none
      structs-fault (q ∷ qs) = first-fault (struct_fault sheet width labels aligns q) (structs_fault sheet width labels aligns qs) (struct_fault_lem q) (structs-fault qs)

      records-fault : (seen : List ℕ) (qs : List Seq) → Fault P (records_fault sheet width labels aligns seen qs)
      unfolding records_fault
      records-fault seen [] = none
      records-fault seen (q ∷ qs) =
          first-fault (record_fault sheet width labels aligns (among q.rtype seen) q) (records_fault sheet width labels aligns (q.rtype ∷ seen) qs)
          (record_fault_lem (among q.rtype seen) q) (records-fault (q.rtype ∷ seen) qs)

    pub seqs-fault : (sheet : List ℕ) (width : ℕ) (structs records : List Seq) (labels : ℕ) → Fault P (seqs_fault sheet width structs records labels)
    unfolding seqs_fault
    seqs-fault sheet width structs records labels =
        let aligns = aligns_of sheet structs in
        first-fault (structs_fault sheet width labels aligns structs) (records_fault sheet width labels aligns [] records)
        (structs-fault sheet width labels aligns structs) (records-fault sheet width labels aligns [] records)

    -- and of those that stand where they are looked for
    pub items_fault_lem : (sheet : List ℕ) (width labels : ℕ) (l t : List ℕ) (rows : Bool) (n k : ℕ) → Fault P (items_fault sheet width labels l t rows n k)
    unfolding table_fault sections_fault counted_fault
    items_fault_lem sheet width labels l t true n k =
        let F : ℕ = seqs_fault sheet width (seqs_from l t false (table_structs l t n k)) (seqs_from l t true (table_records n)) labels in
        let f = seqs-fault sheet width (seqs_from l t false (table_structs l t n k)) (seqs_from l t true (table_records n)) labels in
        let b : Bool = stands l t false (table_structs l t n k) in
        fault-by P (stands l t true (table_records n)) (cond b F 0) 0 (fault-by P b F 0 f none) none
    items_fault_lem sheet width labels l t false n k =
        let e : ℕ = end_from l t true (section_records l) in
        let S : Place = section_structs l t in
        let F : ℕ = seqs_fault sheet width (seqs_from l t false S) (seqs_from l t true (section_records l)) (le16 l (end_from l t false S)) in
        let f = seqs-fault sheet width (seqs_from l t false S) (seqs_from l t true (section_records l)) (le16 l (end_from l t false S)) in
        let b : Bool = stands l t false S in
        let c : Bool = leb (e + 2) (length l) in
        fault-by P (stands l t true (section_records l)) (cond c (cond b F 0) 0) 0 (fault-by P c (cond b F 0) 0 (fault-by P b F 0 f none) none) none

-- what the number is
pub items_refuse : (sheet : List ℕ) (width labels : ℕ) (l t : List ℕ) (rows : Bool) (n k : ℕ) → Fault (In rule_numbers) (items_fault sheet width labels l t rows n k)
items_refuse sheet width labels l t rows n k = items_fault_lem (In rule_numbers) (λ k i. i) sheet width labels l t rows n k
