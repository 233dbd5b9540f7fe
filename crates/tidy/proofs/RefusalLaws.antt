-- Which numbers the checker gives. Assumes nothing.
use Rattle.std.specs.Prelude.{ℕ, suc, ◌+◌, ◌≡◌, refl, Bool, true, false, cond, List, [], ◌∷◌, ◌++◌, length, leb, eqb, Err}
use Rattle.std.proofs.Common.{subst, arith}
use Rattle.refusal.specs.declared.Refusal.{Refusal}
use Rattle.codec.specs.Codec.{Res, ok, refuse, refusal, Codec}
use Rattle.codec.specs.Refusals.{In, Gives}
use Rattle.codec.proofs.RefusalLaws.{in_more}
use Rattle.layout.specs.Layout.{Fields, Label, Layout}
use Rattle.layout.specs.LayoutOf.{entry, label, record_l, struct_l, label_def}
use Rattle.layout.specs.NameCountLaws.{AllOf}
use Rattle.rules.specs.Rules.{ruled_numbers, ruled_of}
use Rattle.rules.proofs.RefusalLaws.{ruled_gives}
use Rattle.tidy.specs.Tidy.{leftover, nonzero, each_from, in_entry, in_fields, in_labels, in_record, in_struct, in_label_def, structs_at, labels_at, untidy, first_of, told, tidy_of, untidy_numbers, tidy_numbers}

-- each is told by one of the four numbers
record Numbered (ks : List Refusal) : Type 0 where
  each : AllOf (λ k. In untidy_numbers k.number) ks

-- of nothing, and of one after the other
numbered_none : Numbered []
numbered_none = record { each = tt }

numbered_then : {xs ys : List Refusal} → Numbered xs → Numbered ys → Numbered (xs ++ ys)
numbered_then {xs} {ys} h g = record { each = go xs h.each }
  where
    go : (zs : List Refusal) → AllOf (λ k. In untidy_numbers k.number) zs → AllOf (λ k. In untidy_numbers k.number) (zs ++ ys)
    go [] a = g.each
    go (z ∷ zs) a = (a.0, go zs a.1)

-- of one thing, of leftovers, of skipped bytes, of labels, of items, of fields
one_numbered : (k p : ℕ) (b : Bool) → In untidy_numbers k → Numbered (cond b [] (refusal k p ∷ []))
one_numbered k p true h = numbered_none
one_numbered k p false h = record { each = (h, tt) }

left_numbered : (k p : ℕ) (xs : List ℕ) → In untidy_numbers k → Numbered (leftover k p xs)
unfolding leftover
left_numbered k p [] h = numbered_none
left_numbered k p (x ∷ xs) h = record { each = (h, tt) }

nonzero_numbered : (p : ℕ) (xs : List ℕ) → Numbered (nonzero p xs)
unfolding nonzero
nonzero_numbered p [] = numbered_none
nonzero_numbered p (x ∷ xs) = numbered_then (one_numbered 122 p (eqb x 0) refl) (nonzero_numbered (p + 1) xs)

labels_numbered : (p least : ℕ) (ls : List Label) → Numbered (in_labels p least ls)
unfolding in_labels
labels_numbered p least [] = numbered_none
labels_numbered p least (l ∷ ls) = numbered_then (one_numbered 121 p (leb least l.code) refl) (labels_numbered (p + length (label.print l)) (suc l.code) ls)

each_numbered : {A : Type 0} (c : Codec A) (f : ℕ → A → List Refusal) → ((p : ℕ) (x : A) → Numbered (f p x)) → (p : ℕ) (xs : List A) → Numbered (each_from c f p xs)
unfolding each_from
each_numbered c f one p [] = numbered_none
each_numbered c f one p (x ∷ xs) = numbered_then (one p x) (each_numbered c f one (p + length (c.print x)) xs)

fields_numbered : (p : ℕ) (f : Fields) → Numbered (in_fields p f)
unfolding in_fields in_entry
fields_numbered p f = each_numbered entry in_entry (λ q e. nonzero_numbered (q + 11) e.skipped) (p + 2) f.entries

-- each number is 120, 121, 122 or 123
pub untidy-numbers : (t : Layout) → AllOf (λ k. In untidy_numbers k.number) (untidy t)
unfolding untidy in_record in_struct in_label_def
untidy-numbers t =
    (numbered_then (each_numbered record_l in_record (λ p r. numbered_then (fields_numbered _ r.fields) (left_numbered 120 _ r.rest refl)) 4 t.records)
    (numbered_then (each_numbered struct_l in_struct (λ p s. numbered_then (fields_numbered _ s.fields) (left_numbered 120 _ s.rest refl)) (structs_at t) t.structs)
    (numbered_then (each_numbered label_def in_label_def (λ p d. numbered_then (labels_numbered _ 0 d.labels) (left_numbered 120 _ d.rest refl)) (labels_at t) t.labels)
    (left_numbered 123 _ t.rest refl)))).each

-- the first of what is told
first_numbered : (ks : List Refusal) {k : Refusal} → AllOf (λ m. In untidy_numbers m.number) ks → first_of ks ≡ Err k → In untidy_numbers k.number
unfolding first_of
first_numbered [] h e = absurd (let z : ◌≡◌ {A = ℕ} 0 1 = cc in omega arith)
first_numbered (m ∷ ks) {k} h e = let q : m ≡ k = cc in subst (λ (n : Refusal). In untidy_numbers n.number) q h.0

-- the reader's numbers, and 120 to 123
pub tidy_refuses : (sheet : List ℕ) (width : ℕ) (s : List ℕ) {k : Refusal} → tidy_of sheet width s ≡ Err k → In tidy_numbers k.number
unfolding told
tidy_refuses sheet width s {k} e = go (ruled_of sheet width s) (ruled_gives sheet width s) e
  where
    go : (r : Res Layout) → Gives (In ruled_numbers) r → told r ≡ Err k → In tidy_numbers k.number
    go (ok t j) g e = in_more untidy_numbers tidy_numbers refl k.number (first_numbered (untidy t) (untidy-numbers t) e)
    go (refuse m) g e = let q : m ≡ k = cc in in_more ruled_numbers tidy_numbers refl k.number (subst (λ (n : Refusal). In ruled_numbers n.number) q g)
