-- What one turn of each loop over the records or structs does, over judged lists. Assumes nothing.
use Rattle.std.specs.Prelude.{Option, Some, None}
use Prim.Native.Nat.{ℕ, zero, suc, ◌+◌, ◌%◌, ◌≤◌, ◌<◌, min}
use mathlib.Core.Path.{◌≡◌, refl, sym, ap, ◌∙◌}
use mathlib.Core.Bool.{Bool, true, false}
use mathlib.Core.List.{List, [], ◌∷◌, ◌++◌, append_assoc, append-nil}
use native.Mathlib.Omega.{arith}
use native.Mathlib.Nat.{zero-add}
use native.Mathlib.Numerals.{add-one}
use lib.ListN.{length, get_or, set, take, length-set, length-map}
use lib.Seq.{take-suc-set, take_all, take_at}
use borrow.Author.Tests.{eq-eqb, ne_eqb, lt-ltb, le-ltb}
use Rattle.codec.specs.Codec.{among}
use Rattle.codec.specs.CaseLaws.{by_le}
use Rattle.marks.specs.Marks.{marked, with_mark, Marks}
use Rattle.marks.specs.MarkLaws.{marks-more}
use Rattle.item_rules.specs.declared.Place.{Place}
use Rattle.item_rules.specs.declared.Item.{Item}
use Rattle.item_rules.specs.Rules.{Seq, judged, first, struct_align, seq_fault, struct_fault, record_fault, structs_fault, records_fault, aligns_of}
use Rattle.item_rules.specs.Entries.{entries_of}
use Rattle.item_rules.specs.Ids.{Clean}
use Rattle.item_rules.specs.Items.{item_seq, next_at, seqs_by, seqs_from, Good, Step, Stepped, found, ended, first_aligns, fault_of}
use Rattle.item_rules.proofs.Loops.{first-none, first_some}

module _ {l t : List ℕ} {isRecord : Bool} {p : Place} {r : Option (Item × Place)} (s : Stepped l t isRecord p r) where
  pub step-found : {i : Item} {p' : Place} → r ≡ Some (i, p') → Step l t isRecord p i p'
  step-found {i} {p'} e = go (rw e at s)
    where
      go : Stepped l t isRecord p (Some (i, p')) → Step l t isRecord p i p'
      go (found x) = x

  pub step_end : r ≡ None → seqs_from l t isRecord p ≡ []
  step_end e = go (rw e at s)
    where
      go : Stepped l t isRecord p None → seqs_from l t isRecord p ≡ []
      go (ended x) = x

-- fewer are to come after each
pub step_less : {l t : List ℕ} {isRecord : Bool} {p : Place} {i : Item} {p' : Place} → Step l t isRecord p i p' → length (seqs_from l t isRecord p') < length (seqs_from l t isRecord p)
step_less {l} {t} {isRecord} {p' = p'} v = rw v.seqs (let q : length (seqs_from l t isRecord p') < suc (length (seqs_from l t isRecord p')) = omega arith in q)

-- as many as are left
pub seqs-length : (l t : List ℕ) (isRecord : Bool) (p : Place) → length (seqs_from l t isRecord p) ≡ p.left
unfolding seqs_from
seqs-length l t isRecord p = go p.left p.at
  where
    go : (n at : ℕ) → length (seqs_by isRecord l t p.rows at n) ≡ n
    go zero at = refl
    go (suc n) at = ap suc (go n (next_at isRecord l t p.rows at))

-- ---- the alignments

module _ (sheet l t : List ℕ) where
  abbrev A : Place → List ℕ
  A p = aligns_of sheet (seqs_from l t false p)

  pub record Filling (place p : Place) (k : ℕ) (xs : List ℕ) : Type 0 where
    pub good : Good l t false p
    pub size : length xs ≡ min place.left 65536
    pub left : k + length (seqs_from l t false p) ≡ place.left
    pub same : take k xs ++ A p ≡ A place

  pub filling : (place : Place) (xs : List ℕ) → Good l t false place → length xs ≡ min place.left 65536 → Filling place place 0 xs
  filling place xs g e = record { good = g; size = e; left = zero-add (length (seqs_from l t false place)) ∙ seqs-length l t false place; same = refl }

  pub fill_on : {place p p' : Place} {i : Item} {k : ℕ} {xs xs' : List ℕ} {a : ℕ} → Filling place p k xs → k < length xs → Step l t false p i p'
      → a ≡ struct_align sheet (entries_of l t i.entries) → xs' ≡ set xs k a → Filling place p' (k + 1) xs'
  fill_on {place} {p} {p'} {i} {k} {xs} {xs'} {a} v h s e w =
      let n : length (seqs_from l t false p) ≡ suc (length (seqs_from l t false p')) = ap length s.seqs in
      let m : length xs' ≡ length xs = ap length w ∙ simp length-set in
      record {
        good = s.good;
        size = m ∙ v.size;
        left = omega (arith, v.left);
        same = rw (w, add-one k, take-suc-set xs k a h, append_assoc) (rw (e) (rw s.seqs at v.same));
      }

  pub fill_done : {place p : Place} {k : ℕ} {xs : List ℕ} → Filling place p k xs → length xs ≤ k → xs ≡ first_aligns sheet (seqs_from l t false place)
  unfolding first_aligns
  fill_done {place} {p} {k} {xs} v h =
      let same : xs ++ A p ≡ A place = ap (λ (x : List ℕ). x ++ A p) (sym (take_all k xs h)) ∙ v.same in
      let n : length (A p) ≡ length (seqs_from l t false p) = length-map (seqs_from l t false p) (λ (q : Seq). struct_align sheet q.entries) in
      by_le place.left 65536
      (λ few.
      let none : length (A p) ≤ 0 = omega (arith, v.size, v.left) in
      let all : xs ≡ A place = sym (append-nil xs) ∙ ap (λ (x : List ℕ). xs ++ x) (sym (nil-of (A p) none)) ∙ same in
      all ∙ sym (take_all 65536 (A place) (omega (arith, ap length all, v.size))))
      (λ many. sym (ap (take 65536) (sym same) ∙ take_at xs (A p) 65536 (omega (arith, v.size))))
    where
      nil-of : (x : List ℕ) → length x ≤ 0 → x ≡ []
      nil-of [] h = refl
      nil-of (y ∷ x) h = absurd (let z : ⊥ = omega arith in z)

  pub fill_end : {place p : Place} {k : ℕ} {xs : List ℕ} → Filling place p k xs → seqs_from l t false p ≡ [] → xs ≡ first_aligns sheet (seqs_from l t false place)
  fill_end {place} {p} {k} {xs} v e = fill_done v (let n : length (seqs_from l t false p) ≡ 0 = ap length e in omega (arith, v.left, v.size))

-- ---- one struct, one record

module _ (sheet : List ℕ) (width labels : ℕ) (aligns l t : List ℕ) where
  seq-judged : (isRecord : Bool) (q : Seq) → seq_fault sheet width labels aligns isRecord (judged q.base q.entries) ≡ seq_fault sheet width labels aligns isRecord q
  unfolding seq_fault
  seq-judged isRecord q = refl

  module _ (i : Item) {a : ℕ} (al : a ≡ struct_align sheet (entries_of l t i.entries)) where
    pub struct_60 : (i.base % a ≡ 0 → ⊥) → 60 ≡ struct_fault sheet width labels aligns (item_seq l t i)
    unfolding struct_fault
    struct_60 n = rw (← al, ne_eqb (i.base % a) 0 n)

    pub struct_is : i.base % a ≡ 0 → {r : ℕ} → r ≡ seq_fault sheet width labels aligns false (judged i.base (entries_of l t i.entries)) → r ≡ struct_fault sheet width labels aligns (item_seq l t i)
    unfolding struct_fault
    struct_is z e = rw (← al, eq-eqb (i.base % a) 0 z) (e ∙ seq-judged false (item_seq l t i))

  module _ (i : Item) {twice : Bool} where
    pub record_61 : twice ≡ true → 61 ≡ record_fault sheet width labels aligns twice (item_seq l t i)
    unfolding record_fault
    record_61 h = rw h

    module _ (h1 : twice ≡ false) where
      pub record_62 : i.rtype % 256 ≡ 78 → 62 ≡ record_fault sheet width labels aligns twice (item_seq l t i)
      unfolding record_fault
      record_62 h = rw (h1, eq-eqb (i.rtype % 256) 78 h)

      module _ (h2 : i.rtype % 256 ≡ 78 → ⊥) where
        pub record_63 : i.base < get_or sheet 518 0 → 63 ≡ record_fault sheet width labels aligns twice (item_seq l t i)
        unfolding record_fault
        record_63 h = rw (h1, ne_eqb (i.rtype % 256) 78 h2, lt-ltb i.base (get_or sheet 518 0) h)

        module _ (h3 : get_or sheet 518 0 ≤ i.base) where
          pub record_64 : (i.base % 8 ≡ 0 → ⊥) → 64 ≡ record_fault sheet width labels aligns twice (item_seq l t i)
          unfolding record_fault
          record_64 h = rw (h1, ne_eqb (i.rtype % 256) 78 h2, le-ltb i.base (get_or sheet 518 0) h3, ne_eqb (i.base % 8) 0 h)

          pub record_is : i.base % 8 ≡ 0 → {r : ℕ} → r ≡ seq_fault sheet width labels aligns true (judged i.base (entries_of l t i.entries)) → r ≡ record_fault sheet width labels aligns twice (item_seq l t i)
          unfolding record_fault
          record_is h e = rw (h1, ne_eqb (i.rtype % 256) 78 h2, le-ltb i.base (get_or sheet 518 0) h3, eq-eqb (i.base % 8) 0 h) (e ∙ seq-judged true (item_seq l t i))

  -- ---- all structs

  abbrev S : Place → ℕ
  S p = structs_fault sheet width labels aligns (seqs_from l t false p)

  pub record Structing (place p : Place) (ws : List ℕ) : Type 0 where
    pub good : Good l t false p
    pub marks : Marks ws []
    pub same : S place ≡ S p

  module _ {place p : Place} {ws : List ℕ} (v : Structing place p ws) where
    module _ {i : Item} {p' : Place} (s : Step l t false p i p') {r : ℕ} (e : r ≡ struct_fault sheet width labels aligns (item_seq l t i)) where
      struct_here : S place ≡ first r (S p')
      unfolding structs_fault
      struct_here = v.same ∙ rw (s.seqs, ← e)

      pub structs-stop : (r ≡ 0 → ⊥) → r ≡ S place
      structs-stop n = sym (struct_here ∙ first_some r _ n)

      pub structs-on : r ≡ 0 → {ws' : List ℕ} → Clean r ws' → Structing place p' ws'
      structs-on z c = record { good = s.good; marks = c z; same = struct_here ∙ first-none r _ z }

    pub structs_end : seqs_from l t false p ≡ [] → 0 ≡ S place
    unfolding structs_fault
    structs_end e = sym (v.same ∙ rw e)

  -- ---- all records

  abbrev C : List ℕ → Place → ℕ
  C seen p = records_fault sheet width labels aligns seen (seqs_from l t true p)

  pub record Recording (place p : Place) (ws rs : List ℕ) : Type 0 where
    pub good : Good l t true p
    pub marks : Marks ws []
    pub seen : List ℕ
    pub rtypes : Marks rs seen
    pub same : C [] place ≡ C seen p

  module _ {place p : Place} {ws rs : List ℕ} (v : Recording place p ws rs) where
    module _ {i : Item} {p' : Place} (s : Step l t true p i p') (small : i.rtype < 65536) {twice : Bool} (told : twice ≡ marked rs i.rtype)
        {r : ℕ} (e : r ≡ record_fault sheet width labels aligns twice (item_seq l t i)) where
      record_here : C [] place ≡ first r (C (i.rtype ∷ v.seen) p')
      unfolding records_fault
      record_here = let q : twice ≡ among i.rtype v.seen = told ∙ v.rtypes.right i.rtype small in v.same ∙ rw (s.seqs, ← q, ← e)

      pub records-stop : (r ≡ 0 → ⊥) → r ≡ C [] place
      records-stop n = sym (record_here ∙ first_some r _ n)

      pub records-on : r ≡ 0 → {ws' : List ℕ} → Clean r ws' → {rs' : List ℕ} → rs' ≡ with_mark rs i.rtype → Recording place p' ws' rs'
      records-on z c q = record {
        good = s.good;
        marks = c z;
        seen = i.rtype ∷ v.seen;
        rtypes = rw q (marks-more rs v.seen i.rtype small v.rtypes);
        same = record_here ∙ first-none r _ z;
      }

    pub records-end : seqs_from l t true p ≡ [] → 0 ≡ C [] place
    unfolding records_fault
    records-end e = sym (v.same ∙ rw e)

-- ---- structs first, then records

module _ (sheet : List ℕ) (width labels : ℕ) (structs records : List Seq) {aligns : List ℕ} (al : aligns ≡ first_aligns sheet structs) {a : ℕ} (e : a ≡ structs_fault sheet width labels aligns structs) where
  pub all-structs : (a ≡ 0 → ⊥) → a ≡ fault_of sheet width labels structs records
  unfolding fault_of
  all-structs n = sym (rw (← al, ← e) (first_some a _ n))

  pub all-records : a ≡ 0 → {b : ℕ} → b ≡ records_fault sheet width labels aligns [] records → b ≡ fault_of sheet width labels structs records
  unfolding fault_of
  all-records z {b} q = sym (rw (← al, ← e, ← q) (first-none a b z))
