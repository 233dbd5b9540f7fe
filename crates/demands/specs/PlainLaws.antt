-- A layout that can be read has no untidy thing exactly if it is plain; so it is told to be tidy exactly then. Assumes nothing.
use Rattle.std.specs.Prelude.{ℕ, zero, suc, ◌+◌, ◌-◌, ◌≡◌, Bool, true, false, cond, replicate, leb, eqb, Ok}
use Rattle.std.proofs.Math.Path.{refl, ap₂}
use Rattle.std.proofs.Common.{ap, ◌∙◌, arith, eqb-true, leb-true, le-leb}
use mathlib.Core.List.{List, [], ◌∷◌, append-eq-nil_iff, ◌++◌}
use Rattle.std.proofs.Math.ListN.{length}
use Rattle.refusal.specs.declared.Refusal.{Refusal}
use Rattle.codec.specs.Codec.{ok, refusal, Codec, Bytes, TimesLegal}
use Rattle.wire.specs.Reader.{all_tests}
use Rattle.layout.specs.Layout.{Entry, Fields, RecordL, StructL, Label, LabelDef, Layout, LegalLayout}
use Rattle.layout.specs.LayoutOf.{D, entry, fields, label, record_l, struct_l, label_def}
use Rattle.layout.specs.LayoutLaws.{Parsed}
use Rattle.layout.specs.LawfulLaws.{entry-lawful, fields-lawful, record_lawful, struct_lawful, layout-lawful, layout_parsed}
use Rattle.layout.specs.NameCountLaws.{AllOf}
use Rattle.layout.specs.PrintLaws.{Rising}
use Rattle.rules.specs.Rules.{ruled_of}
use Rattle.engines.specs.VerdictLaws.{ruled-layout}
use Rattle.tidy.specs.Plain.{PlainEntry, PlainRecord, PlainStruct, PlainLabelDef, Plain}
use Rattle.tidy.specs.Tidy.{leftover, nonzero, each_from, in_entry, in_fields, in_labels, in_record, in_struct, in_label_def, structs_at, labels_at, untidy, first_of, told, tidy_of}

-- ---- one kind of untidy thing

-- where no leftovers are told, nothing is left over
none_left : (k p : ℕ) (xs : List ℕ) → leftover k p xs ≡ [] → xs ≡ []
unfolding leftover
none_left k p [] h = refl
none_left k p (x ∷ xs) h = absurd (let z : ◌≡◌ {A = ℕ} 0 1 = cc in omega arith)

-- where nothing is left over, no leftovers are told
left-none : (k p : ℕ) (xs : List ℕ) → xs ≡ [] → leftover k p xs ≡ []
unfolding leftover
left-none k p xs h = rw h

-- where what a test would tell is not told, the test has passed
untold : (b : Bool) (k : Refusal) → cond b [] (k ∷ []) ≡ [] → b ≡ true
untold true k h = refl
untold false k h = absurd (let z : ◌≡◌ {A = ℕ} 0 1 = cc in omega arith)

-- where none is told to be nonzero, all are zeros
none-zeros : (p : ℕ) (xs : List ℕ) → nonzero p xs ≡ [] → xs ≡ replicate (length xs) 0
unfolding nonzero
none-zeros p [] h = refl
none-zeros p (x ∷ xs) h =
    let (a, b) = append-eq-nil_iff.0 h in
    ap₂ ◌∷◌ (eqb-true x 0 (untold (eqb x 0) (refusal 122 p) a)) (none-zeros (p + 1) xs b)

-- of zeros none is told to be nonzero
zeros-none : (p n : ℕ) → nonzero p (replicate n 0) ≡ []
unfolding nonzero
zeros-none p zero = refl
zeros-none p (suc n) = zeros-none (p + 1) n

-- where no code is told not to rise, they rise
none-rising : (p least : ℕ) (ls : List Label) → in_labels p least ls ≡ [] → Rising all_tests least ls
unfolding in_labels
none-rising p least [] h = tt
none-rising p least (l ∷ ls) h =
    let (a, b) = append-eq-nil_iff.0 h in
    (leb-true least l.code (untold (leb least l.code) (refusal 121 p) a), none-rising (p + length (label.print l)) (suc l.code) ls b)

-- of codes that rise none is told not to
rising_none : (p least : ℕ) (ls : List Label) → Rising all_tests least ls → in_labels p least ls ≡ []
unfolding in_labels
rising_none p least [] h = refl
rising_none p least (l ∷ ls) h = rw (le-leb least l.code h.0) (rising_none (p + length (label.print l)) (suc l.code) ls h.1)

-- ---- items one after the other

module _ {A : Type 0} (c : Codec A) (f : ℕ → A → List Refusal) (P : A → Type 0) where
  -- where nothing is told of legal items, P holds of each, if it holds of one of which nothing is told
  none_each : ((p : ℕ) (x : A) → c.legal x → f p x ≡ [] → P x) → (p : ℕ) (xs : List A) → TimesLegal c xs → each_from c f p xs ≡ [] → AllOf P xs
  unfolding each_from
  none_each one p [] lg h = tt
  none_each one p (x ∷ xs) lg h =
      let (a, b) = append-eq-nil_iff.0 h in
      (one p x lg.0 a, none_each one (p + length (c.print x)) xs lg.1 b)

  -- where P holds of each, nothing is told, if nothing is told of one of which P holds
  each_none : ((p : ℕ) (x : A) → P x → f p x ≡ []) → (p : ℕ) (xs : List A) → AllOf P xs → each_from c f p xs ≡ []
  unfolding each_from
  each_none one p [] h = refl
  each_none one p (x ∷ xs) h = ap₂ ◌++◌ (one p x h.0) (each_none one (p + length (c.print x)) xs h.1)

-- ---- the parts of a layout: where nothing is told of one, it is plain, and where it is plain, nothing is told of it

none-entry : (p : ℕ) (e : Entry) → entry.legal e → in_entry p e ≡ [] → PlainEntry e
unfolding in_entry
none-entry p e lg h = none-zeros (p + 11) e.skipped h ∙ ap (λ n. replicate n 0) (entry-lawful all_tests D e lg).others

entry-none : (p : ℕ) (e : Entry) → PlainEntry e → in_entry p e ≡ []
unfolding in_entry
entry-none p e h = rw h (zeros-none (p + 11) (D - 11))

none-fields : (p : ℕ) (f : Fields) → fields.legal f → in_fields p f ≡ [] → AllOf PlainEntry f.entries
unfolding in_fields
none-fields p f lg h = none_each entry in_entry PlainEntry none-entry (p + 2) f.entries (fields-lawful all_tests D f lg).entries h

fields-none : (p : ℕ) (f : Fields) → AllOf PlainEntry f.entries → in_fields p f ≡ []
unfolding in_fields
fields-none p f h = each_none entry in_entry PlainEntry entry-none (p + 2) f.entries h

none_record : (p : ℕ) (r : RecordL) → record_l.legal r → in_record p r ≡ [] → PlainRecord r
unfolding in_record
none_record p r lg h =
    let (a, b) = append-eq-nil_iff.0 h in
    record { entries = none-fields _ r.fields (record_lawful all_tests D r lg).fields a; rest = none_left 120 _ r.rest b }

record_none : (p : ℕ) (r : RecordL) → PlainRecord r → in_record p r ≡ []
unfolding in_record
record_none p r h = ap₂ ◌++◌ (fields-none _ r.fields h.entries) (left-none 120 _ r.rest h.rest)

none_struct : (p : ℕ) (s : StructL) → struct_l.legal s → in_struct p s ≡ [] → PlainStruct s
unfolding in_struct
none_struct p s lg h =
    let (a, b) = append-eq-nil_iff.0 h in
    record { entries = none-fields _ s.fields (struct_lawful all_tests D s lg).fields a; rest = none_left 120 _ s.rest b }

struct_none : (p : ℕ) (s : StructL) → PlainStruct s → in_struct p s ≡ []
unfolding in_struct
struct_none p s h = ap₂ ◌++◌ (fields-none _ s.fields h.entries) (left-none 120 _ s.rest h.rest)

none-label_def : (p : ℕ) (d : LabelDef) → label_def.legal d → in_label_def p d ≡ [] → PlainLabelDef d
unfolding in_label_def
none-label_def p d lg h =
    let (a, b) = append-eq-nil_iff.0 h in
    record { rising = none-rising _ 0 d.labels a; rest = none_left 120 _ d.rest b }

label_def_none : (p : ℕ) (d : LabelDef) → PlainLabelDef d → in_label_def p d ≡ []
unfolding in_label_def
label_def_none p d h = ap₂ ◌++◌ (rising_none _ 0 d.labels h.rising) (left-none 120 _ d.rest h.rest)

-- ---- the layout

-- where nothing is untidy, the layout is plain
pub untidy-plain : (t : Layout) → LegalLayout all_tests D t → untidy t ≡ [] → Plain t
unfolding untidy
untidy-plain t lg h =
    let l = layout-lawful all_tests D t lg in
    let (r, h₁) = append-eq-nil_iff.0 h in
    let (s, h₂) = append-eq-nil_iff.0 h₁ in
    let (d, e) = append-eq-nil_iff.0 h₂ in
    record {
      records = none_each record_l in_record PlainRecord none_record 4 t.records l.records r;
      structs = none_each struct_l in_struct PlainStruct none_struct (structs_at t) t.structs l.structs s;
      labels = none_each label_def in_label_def PlainLabelDef none-label_def (labels_at t) t.labels l.labels d;
      rest = none_left 123 _ t.rest e;
    }

-- and in a plain layout nothing is untidy
pub plain-untidy : (t : Layout) → Plain t → untidy t ≡ []
unfolding untidy
plain-untidy t h =
    ap₂ ◌++◌ (each_none record_l in_record PlainRecord record_none 4 t.records h.records)
    (ap₂ ◌++◌ (each_none struct_l in_struct PlainStruct struct_none (structs_at t) t.structs h.structs)
    (ap₂ ◌++◌ (each_none label_def in_label_def PlainLabelDef label_def_none (labels_at t) t.labels h.labels) (left-none 123 _ t.rest h.rest)))

-- ---- layouts that are read

-- what passes the rules has bytes, and they are what was read
pub ruled_parsed : (sheet : List ℕ) (width : ℕ) (s : List ℕ) (t : Layout) (j : ℕ) → Bytes s → ruled_of sheet width s ≡ ok t j → Parsed all_tests D s t
ruled_parsed sheet width s t j b e = let (i, l) = ruled-layout sheet width s t j e in layout_parsed s t i b l

-- the answer is yes only where nothing is untidy
first-none : (ks : List Refusal) → first_of ks ≡ Ok tt → ks ≡ []
unfolding first_of
first-none [] y = refl
first-none (k ∷ ks) y = absurd (let z : ◌≡◌ {A = ℕ} 0 1 = cc in omega arith)

-- a layout that is told to be tidy is plain
pub tidy_plain : (sheet : List ℕ) (width : ℕ) (s : List ℕ) (t : Layout) (j : ℕ) → Bytes s → ruled_of sheet width s ≡ ok t j → tidy_of sheet width s ≡ Ok tt → Plain t
unfolding told
tidy_plain sheet width s t j b e y = untidy-plain t (ruled_parsed sheet width s t j b e).legal (first-none (untidy t) (rw e at y))

-- a layout that is read and plain is told to be tidy
pub plain_tidy : (sheet : List ℕ) (width : ℕ) (s : List ℕ) (t : Layout) (j : ℕ) → ruled_of sheet width s ≡ ok t j → Plain t → tidy_of sheet width s ≡ Ok tt
unfolding told first_of
plain_tidy sheet width s t j e h = rw e (ap first_of (plain-untidy t h))
