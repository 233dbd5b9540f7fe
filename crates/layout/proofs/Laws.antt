-- The layout's formats, as the code meets them. Assumes nothing.
use Rattle.std.specs.Prelude.{Ok, Err}
use Prim.Native.Nat.{ℕ, zero, suc, ◌^◌, ◌+◌, ◌-◌, ◌/◌, ◌%◌, ◌≤◌, ◌<◌, zero-le}
use mathlib.Core.Path.{◌≡◌, refl, sym, ap, ap₂, ◌∙◌}
use mathlib.Core.List.{List, [], ◌∷◌, ◌++◌, map}
use mathlib.Core.Bool.{Bool, true, false}
use lib.ListN.{length, take, drop}
use lib.Dec.{eqb}
use lib.Seq.{take-take}
use native.Mathlib.Omega.{arith}
use borrow.Author.Tests.{eq-eqb, ne_eqb}
use Rattle.refusal.specs.declared.Refusal.{Refusal}
use Rattle.codec.specs.Codec.{Codec, Res, ok, refuse, refusal, shifted, ◌>>=◌, padded, num, named, ◌then◌, sized, times, times_parse, among, distinct, distinct_parse, counted}
use Rattle.codec.proofs.Laws.{bind_ok}
use Rattle.codec.proofs.StepLaws.{raw_got, raw-bad, num_got, num-bad, times-length, distinct-length}
use Rattle.codec.specs.CaseLaws.{by_bool, by_le}
use Rattle.codec.proofs.Format.{Format}
use Rattle.codec.specs.Refusals.{Within, ends}
use Rattle.codec.proofs.PlaceLaws.{within-is, within-then}
use Rattle.wire.specs.Formats
use Rattle.wire.specs.Formats.{Name, Tests}
use Rattle.wire.specs.Reader.{tests_of, name_by, name_at, section_at}
use Rattle.numbers.specs.Numbers.{take_at, u16_at, part, le16, le32, le64, Got}
use Rattle.numbers.specs.NumberLaws.{take-value, take-refused, num-is, u16-is, u64-is}
use Rattle.wire.proofs.NameLaws.{name-ok, name-no}
use Rattle.table.specs.Table.{Out, said, row, seq, on_got, all_rows}
use Rattle.table.specs.StepLaws.{items_end, items_row, items_no, both, both-seq, said-named, count-row, said-num, seq-same}
use Rattle.wire.proofs.StepLaws.{said-name, parts-end, parts-run, parts-no}
use Rattle.layout.specs.Layout
use Rattle.layout.specs.Layout.{Entry, Fields, RecordL, StructL, Label, LabelDef, to_record, to_struct, to_label_def}
use Rattle.layout.specs.LayoutOf
use Rattle.layout.specs.LayoutOf.{D, D-least}
use Rattle.layout.specs.PlaceLaws.{bytes_11}
use Rattle.layout.specs.Rows.{head_row, entry_row, name_row, field_rows, record_rows, struct_rows, label_row, label_def_rows, row10, row12, row13, row14, row15}
use Rattle.entry.specs.Entry.{entry_bytes}
use Rattle.layout.specs.Reader.{entries_at, names_at, fields_at, record_head, record_body, struct_body, label_body, body_of, sections_at, group_at, groups_at, labels_at}

-- a record's own numbers: the first that does not fit is refused
module _ (s : List ℕ) where
  pub head_ok : 14 ≤ length s → Ok (14, 14) ≡ record_head s
  unfolding record_head ◌then◌
  head_ok h = rw (num_got 50 2 0 s 0 (omega arith), num_got 50 2 0 s 2 (omega arith), num_got 50 2 0 s 4 (omega arith), num_got 50 8 0 s 6 (omega arith))

  pub head_0 : length s < 2 → Err (refusal 50 0) ≡ record_head s
  unfolding record_head ◌then◌
  head_0 h = rw (num-bad 50 2 0 s 0 (omega arith))

  pub head_2 : 2 ≤ length s → length s < 4 → Err (refusal 50 2) ≡ record_head s
  unfolding record_head ◌then◌
  head_2 h h2 = rw (num_got 50 2 0 s 0 (omega arith), num-bad 50 2 0 s 2 (omega arith))

  pub head_4 : 4 ≤ length s → length s < 6 → Err (refusal 50 4) ≡ record_head s
  unfolding record_head ◌then◌
  head_4 h h4 = rw (num_got 50 2 0 s 0 (omega arith), num_got 50 2 0 s 2 (omega arith), num-bad 50 2 0 s 4 (omega arith))

  pub head_6 : 6 ≤ length s → length s < 14 → Err (refusal 50 6) ≡ record_head s
  unfolding record_head ◌then◌
  head_6 h h6 = rw (num_got 50 2 0 s 0 (omega arith), num_got 50 2 0 s 2 (omega arith), num_got 50 2 0 s 4 (omega arith), num-bad 50 8 0 s 6 (omega arith))

abbrev tag : {B : Type 0} → ℕ → Res B → Res (ℕ × B)
tag {B} a r = ◌>>=◌ {B = ℕ × B} r (λ y k. ok (a, y) k)

said_tagged : {B : Type 0} (f : ℕ × (ℕ × (ℕ × (ℕ × B))) → List (List ℕ)) (a b c d : ℕ) (r : Res B) → said f (tag a (tag b (tag c (tag d r)))) ≡ said (λ y. f (a, (b, (c, (d, y))))) r
said_tagged f a b c d (ok y j) = refl
said_tagged f a b c d (refuse k) = refl

-- the rows of what is read from the start on
rows-within : {A : Type 0} (F : Format A false) (f : A → List (List ℕ)) (base : ℕ) (s : List ℕ) → Within 0 (length s) (said f (F.codec.parse base s 0))
rows-within F f base s = within-then (F.codec.parse base s 0) (λ x j. ok (f x) j) (F.inside base s 0 zero-le) (λ x j a b. ends a b)

-- a hash in two halves
pub nine10 : (s : List ℕ) {start len count a b c lo hi : ℕ} → a ≡ le16 s 0 → b ≡ le16 s 2 → c ≡ le16 s 4 → (lo ≡ le32 s 6) × (lo < 2 ^ 32) → (hi ≡ le32 s 10) × (hi < 2 ^ 32)
    → 10 ∷ start ∷ len ∷ a ∷ b ∷ c ∷ count ∷ lo ∷ hi ∷ [] ≡ row10 start len (le16 s 0) (le16 s 2) (le16 s 4) count (le64 s 6)
nine10 s {lo = lo} {hi = hi} x y z l h =
    let el : lo ≡ le64 s 6 % 4294967296 = omega arith in
    let eh : hi ≡ le64 s 6 / 4294967296 = omega arith in
    rw (x, y, z, el, eh)

-- with the tests that `light` leaves
module _ (light : Bool) where
  abbrev T : Tests
  T = tests_of light

  abbrev Entry' : Codec Entry
  Entry' = (Layout.entry T D).codec

  abbrev Fields' : Codec Fields
  Fields' = (Layout.fields T D).codec

  abbrev Label' : Codec Label
  Label' = (Layout.label T).codec

  abbrev Record' : Codec RecordL
  Record' = (Layout.record_l T D).codec

  abbrev Struct' : Codec StructL
  Struct' = (Layout.struct_l T D).codec

  abbrev LabelDef' : Codec LabelDef
  LabelDef' = (Layout.label_def T).codec

  -- an entry of D bytes
  module _ (base : ℕ) (s : List ℕ) (at : ℕ) where
    pub entry-ok : {v p : ℕ} → take_at 50 D s at ≡ Ok (v, p) → (x : Entry) × (Entry'.parse base s at ≡ ok x p) × (entry_row x ≡ head_row (entry_bytes s at))
    unfolding Layout.entry named padded
    entry-ok {v} {p} e =
        let w = take-value 50 D s at e in
        let d : 11 + (D - 11) ≡ D = omega (arith, D-least) in
        let i : at + (11 + (D - 11)) ≤ length s = omega arith in
        let l : at + 11 ≤ length s = omega (arith, D-least) in
        let x : List ℕ = take (11 + (D - 11)) (drop at s) in (
          record { head = take 11 x; skipped = drop 11 x },
          rw (raw_got 50 (11 + (D - 11)) base s at i) (ap (λ m. ok (record { head = take 11 x; skipped = drop 11 x }) m) (omega arith)),
          ap head_row (take-take 11 (11 + (D - 11)) (drop at s) (omega arith) ∙ sym (bytes_11 s at l)),
        )

    pub entry-no : {k : Refusal} → take_at 50 D s at ≡ Err k → Entry'.parse base s at ≡ refuse k
    unfolding Layout.entry named padded
    entry-no {k} e =
        let (x, h) = take-refused 50 D s at e in
        let d : 11 + (D - 11) ≡ D = omega (arith, D-least) in
        rw (d, raw-bad 50 D base s at h, x)

  pub entries-end : (base n : ℕ) (s : List ℕ) (at : ℕ) → n ≤ 0 → entries_at light base n s at ≡ ok [] at
  unfolding entries_at
  entries-end base n s at h = items_end Entry' entry_row base s n at h

  pub entries-row : (base n : ℕ) (s : List ℕ) (at : ℕ) {d v p : ℕ} → d ≡ D → 0 < n → take_at 50 d s at ≡ Ok (v, p) → entries_at light base n s at ≡ row (head_row (entry_bytes s at)) (entries_at light base (n - 1) s p)
  unfolding entries_at
  entries-row base n s at {d} {v} {p} q h e =
      let (x, e1, e2) = entry-ok base s at (rw q at e) in
      items_row Entry' entry_row base s n at h e1 ∙ ap (λ r. row r (said (map entry_row) (times_parse Entry' (n - 1) base s p))) e2

  pub entries-no : (base n : ℕ) (s : List ℕ) (at : ℕ) {d : ℕ} {k : Refusal} → d ≡ D → 0 < n → take_at 50 d s at ≡ Err k → entries_at light base n s at ≡ refuse k
  unfolding entries_at
  entries-no base n s at q h e = items_no Entry' entry_row base s n at h (entry-no base s at (rw q at e))

  pub names-end : (base n : ℕ) (s : List ℕ) (at : ℕ) → n ≤ 0 → names_at light base n s at ≡ ok [] at
  unfolding names_at
  names-end base n s at h = items_end (name_by T) name_row base s n at h

  pub names-row : (base n : ℕ) (s : List ℕ) (at : ℕ) {len p : ℕ} → 0 < n → name_at T s at ≡ Ok (len, p) → names_at light base n s at ≡ row (row12 (base + (at + 1)) len) (names_at light base (n - 1) s p)
  unfolding names_at
  names-row base n s at {len} {p} h e =
      let (x, e1, e2, e3) = name-ok T base s at e in
      items_row (name_by T) name_row base s n at h e1 ∙ ap₂ (λ a l. row (row12 a l) (said (map name_row) (times_parse (name_by T) (n - 1) base s p))) e2 e3

  pub names-no : (base n : ℕ) (s : List ℕ) (at : ℕ) {k : Refusal} → 0 < n → name_at T s at ≡ Err k → names_at light base n s at ≡ refuse k
  unfolding names_at
  names-no base n s at h e = items_no (name_by T) name_row base s n at h (name-no T base s at e)

  -- ---- fields

  abbrev fields_to : List Entry × List Name → Fields
  fields_to z = record { entries = z.0; names = z.1 }

  pub fields-ok : (base : ℕ) (s : List ℕ) (at : ℕ) {count p : ℕ} → u16_at s at ≡ Ok (count, p) → fields_at light base s at ≡ seq (entries_at light base count s p) (λ q. names_at light base count s q)
  unfolding fields_at entries_at names_at Layout.fields named sized ◌then◌ times
  fields-ok base s at {count} {p} e =
      let r : Res (List Entry) = times_parse Entry' count base s p in
      let g : ℕ → Res (List Name) = λ q. times_parse (name_by T) count base s q in
      rw (num-is 50 2 s at base, e) (said-named field_rows fields_to (both r g) ∙ both-seq (map entry_row) (map name_row) r g)

  pub fields-no : (base : ℕ) (s : List ℕ) (at : ℕ) {k : Refusal} → u16_at s at ≡ Err k → fields_at light base s at ≡ refuse k
  unfolding fields_at Layout.fields named sized
  fields-no base s at e = rw (num-is 50 2 s at base, e)

  -- the fields after a row that tells their number
  module _ (base : ℕ) (s : List ℕ) (at : ℕ) (h : ℕ → List ℕ) where
    abbrev pairs_at : ℕ → ℕ → Res (List Entry × List Name)
    pairs_at n j = both (times_parse Entry' n base s j) (λ q. times_parse (name_by T) n base s q)

    pairs_length : (n p : ℕ) (z : List Entry × List Name) (j : ℕ) → pairs_at n p ≡ ok z j → length z.0 ≡ n
    pairs_length n p z j e =
        let (x, m, e1, e2) = bind_ok (times_parse Entry' n base s p) _ z j e in
        let (y, k, e3, e4) = bind_ok (times_parse (name_by T) n base s m) _ z j e2 in
        let q : (x, y) ≡ z = cc in
        ap (λ w. length w.0) (sym q) ∙ times-length Entry' base s n p x m e1

    pairs_said : {count p : ℕ} → u16_at s at ≡ Ok (count, p) → fields_at light base s at ≡ said (λ z. field_rows (fields_to z)) (pairs_at count p)
    unfolding fields_at Layout.fields named sized ◌then◌ times
    pairs_said {count} {p} e = rw (num-is 50 2 s at base, e) (said-named field_rows fields_to (pairs_at count p))

    pub head-fields : said (λ f. h (length f.entries) ∷ field_rows f) (Fields'.parse base s at) ≡ on_got (u16_at s at) (λ count _. row (h count) (fields_at light base s at))
    unfolding Layout.fields named sized ◌then◌ times
    head-fields =
        said-named (λ f. h (length f.entries) ∷ field_rows f) fields_to ((num 50 2).parse base s at >>= pairs_at)
        ∙ count-row 50 2 h (λ z. field_rows (fields_to z)) (λ z. length z.0) base s at pairs_at pairs_length
        ∙ go (u16_at s at) refl
      where
        go : (g : Got) → u16_at s at ≡ g → on_got g (λ count p. row (h count) (said (λ z. field_rows (fields_to z)) (pairs_at count p))) ≡ on_got g (λ count _. row (h count) (fields_at light base s at))
        go (Ok (count, p)) e = ap (row (h count)) (sym (pairs_said e))
        go (Err k) e = refl

  -- a name and fields after what h tells
  module _ {A : Type 0} (f : A → List (List ℕ)) (to : Name × Fields → A) (h : ℕ → ℕ → ℕ → List ℕ)
      (is : (x : Name) (y : Fields) → f (to (x, y)) ≡ h x.start (length x.text) (length y.entries) ∷ field_rows y) (base : ℕ) (s : List ℕ) (at : ℕ) where
    abbrev Told : Out
    Told = on_got (name_at T s at) λ len q. on_got (u16_at s q) λ count _. row (h (base + (at + 1)) len count) (fields_at light base s q)

    pub name-fields : said (λ z. f (to z)) ((name_by T then Fields').parse base s at) ≡ Told
    unfolding ◌then◌
    name-fields =
        said-name T (λ z. f (to z)) base s at (λ x q. Fields'.parse base s q >>= λ y k. ok (x, y) k) _
        (λ x len q e l.
        said-named (λ z. f (to z)) (λ y. (x, y)) (Fields'.parse base s q)
        ∙ same x (Fields'.parse base s q)
        ∙ head-fields base s q (h x.start (length x.text))
        ∙ ap₂ (λ a b. on_got (u16_at s q) (λ count _. row (h a b count) (fields_at light base s q))) e l)
      where
        same : (x : Name) (r : Res Fields) → said (λ y. f (to (x, y))) r ≡ said (λ y. h x.start (length x.text) (length y.entries) ∷ field_rows y) r
        same x (ok y j) = ap (λ v. ok v j) (is x y)
        same x (refuse k) = refl

  pub struct_is : (base : ℕ) (s : List ℕ)
      → struct_body light base s ≡ (on_got (u16_at s 0) λ size p. on_got (name_at T s p) λ len q. on_got (u16_at s q) λ count _. row (row13 (base + (p + 1)) len size count) (fields_at light base s q))
  unfolding struct_body ◌then◌
  struct_is base s =
      said-num (λ z. struct_rows (to_struct (z, []))) base s 0 50 2 (λ x j. (name_by T then Fields').parse base s j >>= λ y k. ok (x, y) k) _
      (λ size p.
      said-named (λ z. struct_rows (to_struct (z, []))) (λ y. (size, y)) ((name_by T then Fields').parse base s p)
      ∙ name-fields (λ z. struct_rows (to_struct (z, []))) (λ y. (size, y)) (λ a b c. row13 a b size c) (λ x y. refl) base s p)

  pub label_is : (base : ℕ) (s : List ℕ)
      → label_body light base s ≡ (on_got (name_at T s 0) λ len p. on_got (u16_at s p) λ count q. row (row14 (base + 1) len count) (labels_at light base [] count s q))
  unfolding label_body labels_at ◌then◌ sized distinct
  label_is base s =
      said-name T (λ z. label_def_rows (to_label_def (z, []))) base s 0 (λ x j. (num 50 2).parse base s j >>= (λ n j. distinct_parse Label' (λ l. l.code) 55 n [] base s j) >>= λ y k. ok (x, y) k) _
      (λ x len p e l.
      said-named (λ z. label_def_rows (to_label_def (z, []))) (λ y. (x, y)) ((num 50 2).parse base s p >>= λ n j. distinct_parse Label' (λ l. l.code) 55 n [] base s j)
      ∙ count-row 50 2 (row14 x.start (length x.text)) (map label_row) length base s p (λ n j. distinct_parse Label' (λ l. l.code) 55 n [] base s j)
      (λ n q xs j. distinct-length Label' base s (λ l. l.code) 55 n [] q xs j)
      ∙ ap₂ (λ a b. on_got (u16_at s p) (λ count q. row (row14 a b count) (said (map label_row) (distinct_parse Label' (λ l. l.code) 55 count [] base s q)))) e l)

  pub record_is : (base : ℕ) (s : List ℕ)
      → record_body light base s ≡ (on_got (record_head s) λ _ p. on_got (name_at T s p) λ len q. on_got (u16_at s q) λ count _. row (row10 (base + (p + 1)) len (le16 s 0) (le16 s 2) (le16 s 4) count (le64 s 6)) (fields_at light base s q))
  unfolding record_body ◌then◌
  record_is base s =
      let F : ℕ × (ℕ × (ℕ × (ℕ × (Name × Fields)))) → List (List ℕ) = λ z. record_rows (to_record (z, [])) in
      by_le 14 (length s)
      (λ h.
      let h0 : 0 + 2 ≤ length s = omega arith in
      let h2 : 2 + 2 ≤ length s = omega arith in
      let h4 : 4 + 2 ≤ length s = omega arith in
      let h6 : 6 + 8 ≤ length s = omega arith in
      let r : Res (Name × Fields) = (name_by T then Fields').parse base s 14 in
      rw (
        ← head_ok s h,
        num_got 50 2 base s 0 h0,
        u16-is s 0,
        num_got 50 2 base s 2 h2,
        u16-is s 2,
        num_got 50 2 base s 4 h4,
        u16-is s 4,
        num_got 50 8 base s 6 h6,
        u64-is s 6,
      ) (
      said_tagged F (le16 s 0) (le16 s 2) (le16 s 4) (le64 s 6) r
      ∙ name-fields F (λ y. (le16 s 0, (le16 s 2, (le16 s 4, (le64 s 6, y))))) (λ a b c. row10 a b (le16 s 0) (le16 s 2) (le16 s 4) c (le64 s 6)) (λ x y. refl) base s 14
      ))
      (λ h.
      by_le 2 (length s)
      (λ h0.
      by_le 4 (length s)
      (λ h2.
      by_le 6 (length s)
      (λ h4. rw (← head_6 s h4 h, num_got 50 2 base s 0 h0, num_got 50 2 base s 2 h2, num_got 50 2 base s 4 h4, num-bad 50 8 base s 6 h))
      (λ h4. rw (← head_4 s h2 h4, num_got 50 2 base s 0 h0, num_got 50 2 base s 2 h2, num-bad 50 2 base s 4 h4)))
      (λ h2. rw (← head_2 s h0 h2, num_got 50 2 base s 0 h0, num-bad 50 2 base s 2 h2)))
      (λ h0. rw (← head_0 s h0, num-bad 50 2 base s 0 h0)))

  -- a section's body by its kind
  module _ (kind base : ℕ) (s : List ℕ) where
    pub kind_0 : kind ≡ 0 → body_of light kind base s ≡ record_body light base s
    unfolding body_of
    kind_0 e = rw (eq-eqb kind 0 e)

    pub kind_1 : (kind ≡ 0 → ⊥) → kind ≡ 1 → body_of light kind base s ≡ struct_body light base s
    unfolding body_of
    kind_1 h e = rw (ne_eqb kind 0 h, eq-eqb kind 1 e)

    pub kind_2 : (kind ≡ 0 → ⊥) → (kind ≡ 1 → ⊥) → body_of light kind base s ≡ label_body light base s
    unfolding body_of
    kind_2 h i = rw (ne_eqb kind 0 h, ne_eqb kind 1 i)

    -- what refuses it is within it
    pub body-within : {k : Refusal} → body_of light kind base s ≡ refuse k → k.place ≤ length s
    unfolding body_of record_body struct_body label_body
    body-within e =
        by_bool (eqb kind 0)
        (λ b. within-is (rows-within (Layout.record_body T D) _ base s) (rw b at e))
        (λ b. by_bool (eqb kind 1)
        (λ d. within-is (rows-within (Layout.struct_body T D) _ base s) (rw (b, d) at e))
        (λ d. within-is (rows-within (Layout.label_body T) _ base s) (rw (b, d) at e)))

  -- ---- sections

  -- by kind
  module _ (kind n : ℕ) (s : List ℕ) (at : ℕ) where
    pub sections-end : n ≤ 0 → sections_at light kind n s at ≡ ok [] at
    unfolding sections_at Layout.record_l Layout.struct_l Layout.label_def
    sections-end h =
        by_bool (eqb kind 0)
        (λ b. rw b (parts-end (Layout.record_body T D) to_record _ record_rows (λ x r. refl) s n at h))
        (λ b. by_bool (eqb kind 1)
        (λ d. rw (b, d) (parts-end (Layout.struct_body T D) to_struct _ struct_rows (λ x r. refl) s n at h))
        (λ d. rw (b, d) (parts-end (Layout.label_body T) to_label_def _ label_def_rows (λ x r. refl) s n at h)))

    pub sections-run : {b e : ℕ} → 0 < n → section_at s at ≡ Ok (b, e) → sections_at light kind n s at ≡ seq (shifted b (body_of light kind b (part s b e))) (λ _. sections_at light kind (n - 1) s e)
    unfolding sections_at body_of record_body struct_body label_body Layout.record_l Layout.struct_l Layout.label_def
    sections-run h q =
        by_bool (eqb kind 0)
        (λ b. rw b (parts-run (Layout.record_body T D) to_record _ record_rows (λ x r. refl) s n at h q))
        (λ b. by_bool (eqb kind 1)
        (λ d. rw (b, d) (parts-run (Layout.struct_body T D) to_struct _ struct_rows (λ x r. refl) s n at h q))
        (λ d. rw (b, d) (parts-run (Layout.label_body T) to_label_def _ label_def_rows (λ x r. refl) s n at h q)))

    pub sections-no : {k : Refusal} → 0 < n → section_at s at ≡ Err k → sections_at light kind n s at ≡ refuse k
    unfolding sections_at Layout.record_l Layout.struct_l Layout.label_def
    sections-no h q =
        by_bool (eqb kind 0)
        (λ b. rw b (parts-no (Layout.record_body T D) to_record _ record_rows (λ x r. refl) s n at h q))
        (λ b. by_bool (eqb kind 1)
        (λ d. rw (b, d) (parts-no (Layout.struct_body T D) to_struct _ struct_rows (λ x r. refl) s n at h q))
        (λ d. rw (b, d) (parts-no (Layout.label_body T) to_label_def _ label_def_rows (λ x r. refl) s n at h q)))

  -- a count and as many items
  module _ (s : List ℕ) (p : ℕ) where
    kind0 : said (all_rows record_rows) ((counted Record' 50).parse 0 s p) ≡ group_at light 0 s p
    unfolding group_at sections_at sized times
    kind0 = said-num (all_rows record_rows) 0 s p 50 2 (λ n j. times_parse Record' n 0 s j) _ (λ v p. refl)

    kind1 : said (all_rows struct_rows) ((counted Struct' 50).parse 0 s p) ≡ group_at light 1 s p
    unfolding group_at sections_at sized times
    kind1 = said-num (all_rows struct_rows) 0 s p 50 2 (λ n j. times_parse Struct' n 0 s j) _ (λ v p. refl)

    kind2 : said (all_rows label_def_rows) ((counted LabelDef' 50).parse 0 s p) ≡ group_at light 2 s p
    unfolding group_at sections_at sized times
    kind2 = said-num (all_rows label_def_rows) 0 s p 50 2 (λ n j. times_parse LabelDef' n 0 s j) _ (λ v p. refl)

  -- records, structs and label defs
  pub groups-is : (s : List ℕ) (at : ℕ) → groups_at light s at ≡ seq (group_at light 0 s at) (λ p. seq (group_at light 1 s p) (λ q. group_at light 2 s q))
  unfolding groups_at Layout.groups ◌then◌
  groups-is s at =
      let rs : Res (List RecordL) = (counted Record' 50).parse 0 s at in
      let ss : ℕ → Res (List StructL) = λ p. (counted Struct' 50).parse 0 s p in
      let ls : ℕ → Res (List LabelDef) = λ q. (counted LabelDef' 50).parse 0 s q in
      both-seq (all_rows record_rows) (λ z. all_rows struct_rows z.0 ++ all_rows label_def_rows z.1) rs (λ p. both (ss p) ls)
      ∙ ap (λ o. seq o (λ p. said (λ z. all_rows struct_rows z.0 ++ all_rows label_def_rows z.1) (both (ss p) ls))) (kind0 s at)
      ∙ seq-same (group_at light 0 s at) _ _ (λ p.
      both-seq (all_rows struct_rows) (all_rows label_def_rows) (ss p) ls
      ∙ ap (λ o. seq o (λ q. said (all_rows label_def_rows) (ls q))) (kind1 s p)
      ∙ seq-same (group_at light 1 s p) _ _ (λ q. kind2 s q))

  -- ---- labels, after labels of the codes `seen`

  module _ (base : ℕ) (s : List ℕ) (at : ℕ) where
    label-no : {j : Refusal} → u16_at s at ≡ Err j → Label'.parse base s at ≡ refuse j
    unfolding Layout.label named ◌then◌
    label-no e = rw (num-is 50 2 s at base, e)

    label_no2 : {code p : ℕ} {j : Refusal} → u16_at s at ≡ Ok (code, p) → name_at T s p ≡ Err j → Label'.parse base s at ≡ refuse j
    unfolding Layout.label named ◌then◌
    label_no2 {code} {p} e f = rw (num-is 50 2 s at base, e, name-no T base s p f)

    label-ok : {code p len q : ℕ} → u16_at s at ≡ Ok (code, p) → name_at T s p ≡ Ok (len, q)
        → (x : Label) × (Label'.parse base s at ≡ ok x q) × (x.code ≡ code) × (label_row x ≡ row15 (base + (p + 1)) len code)
    unfolding Layout.label named ◌then◌
    label-ok {code} {p} {len} {q} e f =
        let (n, e1, e2, e3) = name-ok T base s p f in
        (record { code = code; name = n }, rw (num-is 50 2 s at base, e, e1), refl, ap₂ (λ a b. row15 a b code) e2 e3)

  module _ (base : ℕ) (seen : List ℕ) where
    pub labels-end : (n : ℕ) (s : List ℕ) (at : ℕ) → n ≤ 0 → labels_at light base seen n s at ≡ ok [] at
    unfolding labels_at
    labels-end zero s at h = refl
    labels-end (suc n) s at h = let z : ⊥ = omega arith in absurd z

    pub labels-no : (n : ℕ) (s : List ℕ) (at : ℕ) {j : Refusal} → 0 < n → u16_at s at ≡ Err j → labels_at light base seen n s at ≡ refuse j
    unfolding labels_at
    labels-no zero s at h e = let z : ⊥ = omega arith in absurd z
    labels-no (suc n) s at h e = rw (label-no base s at e)

    pub labels_no2 : (n : ℕ) (s : List ℕ) (at : ℕ) {code p : ℕ} {j : Refusal} → 0 < n → u16_at s at ≡ Ok (code, p) → name_at T s p ≡ Err j → labels_at light base seen n s at ≡ refuse j
    unfolding labels_at
    labels_no2 zero s at h e f = let z : ⊥ = omega arith in absurd z
    labels_no2 (suc n) s at h e f = rw (label_no2 base s at e f)

    pub labels_55 : (n : ℕ) (s : List ℕ) (at : ℕ) {code p len q : ℕ} → 0 < n → u16_at s at ≡ Ok (code, p) → name_at T s p ≡ Ok (len, q) → among code seen ≡ true → labels_at light base seen n s at ≡ refuse (refusal 55 at)
    unfolding labels_at
    labels_55 zero s at h e f g = let z : ⊥ = omega arith in absurd z
    labels_55 (suc n) s at h e f g =
        let (x, e1, e2, e3) = label-ok base s at e f in
        rw (e1, e2, g)

    pub labels-row : (n : ℕ) (s : List ℕ) (at : ℕ) {code p len q : ℕ} → 0 < n → u16_at s at ≡ Ok (code, p) → name_at T s p ≡ Ok (len, q) → among code seen ≡ false →
        labels_at light base seen n s at ≡ row (row15 (base + (p + 1)) len code) (labels_at light base (code ∷ seen) (n - 1) s q)
    unfolding labels_at
    labels-row zero s at h e f g = let z : ⊥ = omega arith in absurd z
    labels-row (suc n) s at {code} {p} {len} {q} h e f g =
        let (x, e1, e2, e3) = label-ok base s at e f in
        let k : suc n - 1 ≡ n = omega arith in
        rw (e1, e2, g, k, ← e3) (go x (distinct_parse Label' (λ l. l.code) 55 n (code ∷ seen) base s q))
      where
        go : (x : Label) (r : Res (List Label)) → said (map label_row) (r >>= λ xs k. ok (x ∷ xs) k) ≡ row (label_row x) (said (map label_row) r)
        go x (ok xs k) = refl
        go x (refuse k) = refl
