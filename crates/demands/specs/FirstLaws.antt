-- What is untidy is told in wire order: the places rise strictly and lie within the layout, so the first that is told is the first by place.
-- Assumes nothing.
use Rattle.std.specs.Prelude.{ℕ, suc, ◌+◌, ◌-◌, ◌≤◌, ◌<◌, ◌≡◌, refl, Bool, true, false, cond, List, [], ◌∷◌, ◌++◌, length, leb, eqb, Err}
use Rattle.std.proofs.Common.{arith, ap, ◌∙◌, subst, length-append}
use Rattle.refusal.specs.declared.Refusal.{Refusal}
use Rattle.codec.specs.Codec.{Codec, times_print, TimesLegal, little, ok, refusal, Bytes}
use Rattle.wire.specs.Reader.{all_tests, name}
use Rattle.layout.specs.Layout.{Entry, Fields, RecordL, StructL, Label, LabelDef, Layout, LegalLayout, print_layout}
use Rattle.layout.specs.LayoutOf.{D, entry, fields, label, record_l, struct_l, label_def}
use Rattle.layout.specs.LawfulLaws.{record_inside, struct_inside, label_def_body, entry-lawful, fields-lawful, record_bytes, record_lawful, struct_bytes, struct_lawful, label_def-bytes, layout-bytes, layout-lawful}
use Rattle.layout.specs.NameCountLaws.{AllOf}
use Rattle.layout.specs.PrintLaws.{entry-print, label-print, label_body-print, fields-print, struct_body-print, record_body-print}
use Rattle.rules.specs.Rules.{ruled_of}
use Rattle.tidy.specs.Tidy.{leftover, nonzero, each_from, in_entry, in_fields, in_labels, in_record, in_struct, in_label_def, structs_at, labels_at, untidy, first_of, told, tidy_of}
use Rattle.demands.specs.PlainLaws.{ruled_parsed}

-- ---- places that rise

-- the places rise strictly, from p on and below q
pub data Rises : ℕ → ℕ → List Refusal → Type 0 where
  none : {p q : ℕ} → Rises p q []
  next : {p q : ℕ} {k : Refusal} {ks : List Refusal} → p ≤ k.place → k.place < q → Rises (suc k.place) q ks → Rises p q (k ∷ ks)

-- one more place before them
rises_next : {p q : ℕ} (k : Refusal) {ks : List Refusal} → Rises (suc k.place) q ks → (p ≤ k.place) × (k.place < q) → Rises p q (k ∷ ks)
rises_next k h l = next l.0 l.1 h

-- from an earlier place on, and below a later one
rises_wider : {p q p' q' : ℕ} {ks : List Refusal} → Rises p q ks → (p' ≤ p) × (q ≤ q') → Rises p' q' ks
rises_wider none l = none
rises_wider (next {k = k} a b h) l = rises_next k (rises_wider h (omega arith)) (omega arith)

-- places from p to m, and then places from n to r
rises-then : {o p m n r q : ℕ} {xs ys : List Refusal} → Rises p m xs → Rises n r ys → (o ≤ p) × (o ≤ n) × (m ≤ n) × (m ≤ q) × (r ≤ q) → Rises o q (xs ++ ys)
rises-then none g l = rises_wider g (omega arith)
rises-then (next {k = k} a b h) g l = rises_next k (rises-then h g (omega arith)) (omega arith)

-- one thing that may be told at p
one-rises : (k p : ℕ) (b : Bool) → Rises p (p + 1) (cond b [] (refusal k p ∷ []))
one-rises k p true = none
one-rises k p false = rises_next (refusal k p) none (omega arith)

-- leftovers are told at the first of them
left-rises : (k p : ℕ) (xs : List ℕ) → Rises p (p + length xs) (leftover k p xs)
unfolding leftover
left-rises k p [] = none
left-rises k p (x ∷ xs) = rises_next (refusal k p) none (omega arith)

-- bytes that are not zero are told within the bytes
nonzero-rises : (p : ℕ) (xs : List ℕ) → Rises p (p + length xs) (nonzero p xs)
unfolding nonzero
nonzero-rises p [] = none
nonzero-rises p (x ∷ xs) = rises-then (one-rises 122 p (eqb x 0)) (nonzero-rises (p + 1) xs) (omega arith)

-- items one after the other, each within its bytes
each-rises : {A : Type 0} (c : Codec A) (f : ℕ → A → List Refusal) → ((p : ℕ) (x : A) → c.legal x → Rises p (p + length (c.print x)) (f p x))
    → (p : ℕ) (xs : List A) → TimesLegal c xs → Rises p (p + length (times_print c xs)) (each_from c f p xs)
unfolding each_from
each-rises c f one p [] lg = none
each-rises c f one p (x ∷ xs) lg =
    rises-then (one p x lg.0) (each-rises c f one (p + length (c.print x)) xs lg.1) (omega (arith, length-append (c.print x) (times_print c xs)))

-- ---- the parts of a layout

-- what is told of an entry, of fields and of labels is told within their bytes
entry-rises : (p : ℕ) (e : Entry) → entry.legal e → Rises p (p + length (entry.print e)) (in_entry p e)
unfolding in_entry
entry-rises p e lg = rises_wider (nonzero-rises (p + 11) e.skipped) (omega (arith, (entry-lawful all_tests D e lg).eleven, ap length (entry-print all_tests D e), length-append e.head e.skipped))

fields_rise : (p : ℕ) (f : Fields) → fields.legal f → Rises p (p + length (fields.print f)) (in_fields p f)
unfolding in_fields
fields_rise p f lg =
    rises_wider (each-rises entry in_entry entry-rises (p + 2) f.entries (fields-lawful all_tests D f lg).entries)
    (omega (arith, ap length (fields-print all_tests D f), length-append (times_print entry f.entries) (times_print name f.names)))

labels_rise_lem : (p least : ℕ) (ls : List Label) → Rises p (p + length (times_print label ls)) (in_labels p least ls)
unfolding in_labels
labels_rise_lem p least [] = none
labels_rise_lem p least (l ∷ ls) =
    rises-then (one-rises 121 p (leb least l.code)) (labels_rise_lem (p + length (label.print l)) (suc l.code) ls)
    (omega (arith, length-append (label.print l) (times_print label ls), ap length (label-print all_tests l)))

-- a section of n bytes at p: what is told between a and b in it, and its leftovers
section-rises : {a b : ℕ} {ks : List Refusal} (p n : ℕ) (rest : List ℕ) → Rises a b ks → (p ≤ a) × (a ≤ b) × (b + length rest ≡ p + n) → Rises p (p + n) (ks ++ leftover 120 (p + n - length rest) rest)
section-rises p n rest h l = rises-then h (left-rises 120 (p + n - length rest) rest) (omega arith)

-- what is told of a record, a struct and a label def is told within its bytes
record_rises : (p : ℕ) (r : RecordL) → record_l.legal r → Rises p (p + length (record_l.print r)) (in_record p r)
unfolding in_record
record_rises p r lg =
    let n = length-append (name.print r.name) (fields.print r.fields) in
    let b = ap length (record_body-print all_tests D r) in
    section-rises p (length (record_l.print r)) r.rest (fields_rise (p + 16 + length (name.print r.name)) r.fields (record_lawful all_tests D r lg).fields)
    (omega (arith, ap length (record_bytes all_tests D r), length-append (record_inside all_tests D r) r.rest))

struct_rises : (p : ℕ) (s : StructL) → struct_l.legal s → Rises p (p + length (struct_l.print s)) (in_struct p s)
unfolding in_struct
struct_rises p s lg =
    let n = length-append (name.print s.name) (fields.print s.fields) in
    let b = ap length (struct_body-print all_tests D s.size s.name s.fields) in
    section-rises p (length (struct_l.print s)) s.rest (fields_rise (p + 4 + length (name.print s.name)) s.fields (struct_lawful all_tests D s lg).fields)
    (omega (arith, ap length (struct_bytes all_tests D s), length-append (struct_inside all_tests D s) s.rest))

label_def_rises : (p : ℕ) (d : LabelDef) → label_def.legal d → Rises p (p + length (label_def.print d)) (in_label_def p d)
unfolding in_label_def
label_def_rises p d lg =
    let n = length-append (name.print d.name) (little 2 (length d.labels) ++ times_print label d.labels) in
    let b = ap length (label_body-print all_tests d.name d.labels) in
    section-rises p (length (label_def.print d)) d.rest (labels_rise_lem (p + 4 + length (name.print d.name)) 0 d.labels)
    (omega (arith, ap length (label_def-bytes all_tests d), length-append (label_def_body all_tests d) d.rest))

-- ---- the layout

-- the label defs end where the leftovers begin
layout-length : (t : Layout) → length (print_layout all_tests D t) ≡ labels_at t + length (times_print label_def t.labels) + length t.rest
unfolding labels_at structs_at
layout-length t = ap length (layout-bytes all_tests D t) ∙ simp length-append (omega arith)

-- what is untidy is told in wire order, each at a byte of the layout after its version and the first count
pub untidy-rises : (t : Layout) → LegalLayout all_tests D t → Rises 4 (length (print_layout all_tests D t)) (untidy t)
unfolding untidy labels_at structs_at
untidy-rises t lg =
    let n = layout-length t in
    let l = layout-lawful all_tests D t lg in
    let z = length (print_layout all_tests D t) in
    rises-then (each-rises record_l in_record record_rises 4 t.records l.records)
    (rises-then {o = structs_at t} {q = z} (each-rises struct_l in_struct struct_rises (structs_at t) t.structs l.structs)
    (rises-then {o = labels_at t} {q = z} (each-rises label_def in_label_def label_def_rises (labels_at t) t.labels l.labels) (left-rises 123 (z - length t.rest) t.rest) (omega arith)) (omega arith)) (omega arith)

-- each place is that of a byte of the layout
pub untidy-within : (t : Layout) → LegalLayout all_tests D t → AllOf (λ k. k.place < length (print_layout all_tests D t)) (untidy t)
untidy-within t lg = within (untidy-rises t lg)
  where
    within : {p q : ℕ} {ks : List Refusal} → Rises p q ks → AllOf (λ k. k.place < q) ks
    within none = tt
    within (next a b h) = (b, within h)

-- ---- the first

-- k is untidy in the layout t, at a byte of s, and every other untidy thing stands after it
pub record First (s : List ℕ) (t : Layout) (k : Refusal) : Type 0 where
  pub later : List Refusal
  pub all : untidy t ≡ k ∷ later
  pub least : AllOf (λ m. k.place < m.place) later
  pub inside : k.place < length s

-- places that rise from p on are all at p or after it
rises-after : {p q : ℕ} {ks : List Refusal} (n : ℕ) → n < p → Rises p q ks → AllOf (λ k. n < k.place) ks
rises-after n l none = tt
rises-after n l (next a b h) = (omega arith, rises-after n (omega arith) h)

-- the first of what is told
first-of : (s : List ℕ) (t : Layout) {p : ℕ} (ks : List Refusal) (k : Refusal) → untidy t ≡ ks → Rises p (length s) ks → first_of ks ≡ Err k → First s t k
unfolding first_of
first-of s t [] k u h e = absurd (let z : ◌≡◌ {A = ℕ} 0 1 = cc in omega arith)
first-of s t (m ∷ ks) k u (next a b h) e =
    let q : m ≡ k = cc in
    subst (First s t) q (record { later = ks; all = u; least = rises-after m.place (omega arith) h; inside = b })

-- where a layout passes the rules and is not tidy, the answer is its first untidy thing in wire order
pub tidy_first : (sheet : List ℕ) (width : ℕ) (s : List ℕ) (t : Layout) (j : ℕ) (k : Refusal) → Bytes s → ruled_of sheet width s ≡ ok t j → tidy_of sheet width s ≡ Err k → First s t k
unfolding told
tidy_first sheet width s t j k b e y =
    let p = ruled_parsed sheet width s t j b e in
    first-of s t (untidy t) k refl (rw p.bytes at (untidy-rises t p.legal)) (rw e at y)
