-- The plain form of a layout: nothing left over in a section or after the last label def, label codes that rise, zeros where an entry is
-- skipped. What is untidy in an accepted layout, in wire order, each thing by its number and its place; and the answer, which is the first.
-- Assumes nothing.
use Rattle.std.specs.Prelude.{ℕ, suc, ◌+◌, ◌-◌, cond, List, [], ◌∷◌, ◌++◌, length, leb, eqb, Result, Ok, Err}
use Rattle.refusal.specs.declared.Refusal.{Refusal}
use Rattle.codec.specs.Codec.{Res, ok, refuse, refusal, Codec, times_print}
use Rattle.wire.specs.Reader.{all_tests, name}
use Rattle.layout.specs.Layout.{Entry, Fields, RecordL, StructL, Label, LabelDef, Layout, print_layout}
use Rattle.layout.specs.LayoutOf.{D, entry, label, record_l, struct_l, label_def}
use Rattle.rules.specs.Rules.{ruled_of, ruled_numbers}

-- ---- what is untidy

-- bytes that are left over, the first of them at place p: k, at that byte
unfoldable pub leftover : ℕ → ℕ → List ℕ → List Refusal
leftover k p [] = []
leftover k p (x ∷ xs) = refusal k p ∷ []

-- skipped bytes, the first of them at place p: 122 at each that is not zero
unfoldable pub nonzero : ℕ → List ℕ → List Refusal
nonzero p [] = []
nonzero p (x ∷ xs) = cond (eqb x 0) [] (refusal 122 p ∷ []) ++ nonzero (p + 1) xs

-- items of a format, one after the other from place p on
unfoldable pub each_from : {A : Type 0} → Codec A → (ℕ → A → List Refusal) → ℕ → List A → List Refusal
each_from c untidy p [] = []
each_from c untidy p (x ∷ xs) = untidy p x ++ each_from c untidy (p + length (c.print x)) xs

-- an entry at place p: what is skipped after its eleven bytes
unfoldable pub in_entry : ℕ → Entry → List Refusal
in_entry p e = nonzero (p + 11) e.skipped

-- fields whose count is at place p
unfoldable pub in_fields : ℕ → Fields → List Refusal
in_fields p f = each_from entry in_entry (p + 2) f.entries

-- labels from place p on: 121 at each code that is below `least`, which is one more than the code before it
unfoldable pub in_labels : ℕ → ℕ → List Label → List Refusal
in_labels p least [] = []
in_labels p least (l ∷ ls) = cond (leb least l.code) [] (refusal 121 p ∷ []) ++ in_labels (p + length (label.print l)) (suc l.code) ls

-- a record whose section is at place p: its fields, after the length, fourteen bytes of numbers and the name; then 120
unfoldable pub in_record : ℕ → RecordL → List Refusal
in_record p r = in_fields (p + 16 + length (name.print r.name)) r.fields ++ leftover 120 (p + length (record_l.print r) - length r.rest) r.rest

-- a struct: its fields, after the length, its size and the name; then 120
unfoldable pub in_struct : ℕ → StructL → List Refusal
in_struct p s = in_fields (p + 4 + length (name.print s.name)) s.fields ++ leftover 120 (p + length (struct_l.print s) - length s.rest) s.rest

-- a label def: its labels, after the length, the name and the count; then 120
unfoldable pub in_label_def : ℕ → LabelDef → List Refusal
in_label_def p d = in_labels (p + 4 + length (name.print d.name)) 0 d.labels ++ leftover 120 (p + length (label_def.print d) - length d.rest) d.rest

-- the places of the first struct and of the first label def: each group stands after its count
unfoldable pub structs_at : Layout → ℕ
structs_at t = 4 + length (times_print record_l t.records) + 2

unfoldable pub labels_at : Layout → ℕ
labels_at t = structs_at t + length (times_print struct_l t.structs) + 2

-- a layout: records, structs, label defs, then 123
unfoldable pub untidy : Layout → List Refusal
untidy t =
    each_from record_l in_record 4 t.records
    ++ (each_from struct_l in_struct (structs_at t) t.structs
    ++ (each_from label_def in_label_def (labels_at t) t.labels ++ leftover 123 (length (print_layout all_tests D t) - length t.rest) t.rest))

-- ---- the answer

-- yes, or why not
abbrev pub Tidy : Type 0
Tidy = Result (Unit {0}) Refusal

-- the first untidy thing, or yes where there is none
unfoldable pub first_of : List Refusal → Tidy
first_of [] = Ok tt
first_of (k ∷ ks) = Err k

-- the reader's refusal comes first
unfoldable pub told : Res Layout → Tidy
told (ok t j) = first_of (untidy t)
told (refuse k) = Err k

-- of a layout given with a symbol width and a sheet
abbrev pub tidy_of : List ℕ → ℕ → List ℕ → Tidy
tidy_of sheet width s = told (ruled_of sheet width s)

-- what is untidy, and all that refuses
abbrev pub untidy_numbers : List ℕ
untidy_numbers = 120 ∷ 121 ∷ 122 ∷ 123 ∷ []

abbrev pub tidy_numbers : List ℕ
tidy_numbers = ruled_numbers ++ untidy_numbers

-- 0 for yes
abbrev pub tidy_number : Tidy → ℕ
tidy_number (Ok x) = 0
tidy_number (Err e) = e.number
