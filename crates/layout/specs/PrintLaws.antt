-- The bytes of each part of a layout, which parts have bytes, and that what is printed reads back. Assumes nothing.
use Rattle.std.specs.Prelude.{ℕ, suc, ◌+◌, ◌-◌, ◌≤◌, ◌<◌, ◌≡◌, Bool, false, take, drop}
use Rattle.std.proofs.Common.{arith, sym, ◌∙◌, ne_eqb, le-leb}
use Rattle.std.proofs.Math.Path.{refl, ap}
use mathlib.Core.List.{List, [], ◌∷◌, ◌++◌, map, append-nil}
use Rattle.std.proofs.Math.ListN.{length}
use Rattle.codec.specs.Codec.{◌then◌, ok, Bytes, padded, little, num, named, sized, times, times_print, TimesLegal, TimesEach, among, distinct, DistinctLegal}
use Rattle.wire.specs.Reader.{all_tests}
use Rattle.wire.specs.Formats.{Tests}
use Rattle.wire.specs.Formats.{Name, name}
use Rattle.wire.specs.FormatLaws.{section-print, section-legal, section_holds}
use Rattle.layout.specs.Layout.{Entry, Fields, RecordL, StructL, Label, LabelDef, Layout, entry, fields, record_l, struct_l, label, label_body, label_def, record_body, struct_body, parts, groups, to_layout, from_layout, print_layout, locate_layout, bare_layout, LegalLayout, EachName}
use Rattle.layout.specs.LayoutLaws.{parse-print, layout-octets}
use Rattle.layout.specs.Rows.{rows}
use Rattle.layout.specs.RowLaws.{no_start, rows-bare}
use Rattle.layout.specs.TextLaws.{row_text, texts, row-texts, texts-bare, texts-each}
use Rattle.layout.specs.LayoutOf.{D, layout_of, layout_by}

module _ (tests : Tests) where
  pub label-print : (l : Label) → (label tests).codec.print l ≡ little 2 l.code ++ (name tests).codec.print l.name
  unfolding label named ◌then◌ num
  label-print l = refl

  pub label-legal : (l : Label) → l.code < 65536 → (name tests).codec.legal l.name → (label tests).codec.legal l
  unfolding label named ◌then◌ num
  label-legal l c n = (c, n)

  pub label_def-print : (d : LabelDef) → d.rest ≡ [] → (label_def tests).codec.print d ≡ little 2 (2 + length ((label_body tests).codec.print (d.name, d.labels))) ++ (label_body tests).codec.print (d.name, d.labels)
  unfolding label_def named
  label_def-print d e = rw e (section-print (label_body tests) (d.name, d.labels))

  pub label_body-print : (n : Name) (ls : List Label) → (label_body tests).codec.print (n, ls) ≡ (name tests).codec.print n ++ (little 2 (length ls) ++ times_print (label tests).codec ls)
  unfolding ◌then◌ sized distinct
  label_body-print n ls = refl

  -- the codes of labels after some: strictly rising
  abbrev pub Rising : ℕ → List Label → Type 0
  Rising least [] = Unit {0}
  Rising least (l ∷ ls) = (least ≤ l.code) × Rising (suc l.code) ls

  abbrev Below : ℕ → List ℕ → Type 0
  Below n [] = Unit {0}
  Below n (x ∷ xs) = (x < n) × Below n xs

  below_more : (n m : ℕ) (xs : List ℕ) → n ≤ m → Below n xs → Below m xs
  below_more n m [] h b = tt
  below_more n m (x ∷ xs) h b = let l = b.0 in (omega arith, below_more n m xs h b.1)

  not-among : (n a : ℕ) (xs : List ℕ) → n ≤ a → Below n xs → among a xs ≡ false
  not-among n a [] h b = refl
  not-among n a (x ∷ xs) h b = let l = b.0 in rw (ne_eqb a x (λ e. omega arith)) (not-among n a xs h b.1)

  -- labels whose codes rise have each code once
  rising-distinct : (least : ℕ) (seen : List ℕ) (ls : List Label) → Below least seen → Rising least ls → TimesLegal (label tests).codec ls → DistinctLegal (label tests).codec (λ l. l.code) 55 seen ls
  rising-distinct least seen [] b r lg = tt
  rising-distinct least seen (l ∷ ls) b r lg =
      let h = r.0 in (
        lg.0,
        rw (not-among least l.code seen h b) refl,
        rising-distinct (suc l.code) (l.code ∷ seen) ls (omega arith, below_more least (suc l.code) seen (omega arith) b) r.1 lg.1,
      )

  pub label-each : (P : ℕ → List ℕ → Type 0) (l : Label) → (name tests).codec.each P l.name → (label tests).codec.each P l
  unfolding label named ◌then◌ num
  label-each P l h = (tt, h)

  pub label_def-each : (P : ℕ → List ℕ → Type 0) (d : LabelDef) → (name tests).codec.each P d.name → TimesEach (label tests).codec P d.labels → (label_def tests).codec.each P d
  unfolding label_def named ◌then◌ sized distinct
  label_def-each P d h g = section_holds (label_body tests) P _ (h, g)

  pub label_def-legal : (d : LabelDef) → d.rest ≡ [] → (name tests).codec.legal d.name → length d.labels < 65536 → TimesLegal (label tests).codec d.labels → Rising 0 d.labels
      → length ((label_def tests).codec.print d) < 65536 → (label_def tests).codec.legal d
  unfolding label_def named ◌then◌ sized distinct
  label_def-legal d e n l ls r h =
      let p : length ((label_def tests).codec.print d) ≡ 2 + length ((label_body tests).codec.print (d.name, d.labels)) = omega (arith, ap length (label_def-print d e)) in
      rw e (section-legal (label_body tests) (d.name, d.labels) (n, (l, (refl, rising-distinct 0 [] d.labels tt r ls))) (omega arith))

  module _ (D : ℕ) where
    pub entry-print : (e : Entry) → (entry tests D).codec.print e ≡ e.head ++ e.skipped
    unfolding entry named padded
    entry-print e = refl

    pub entry-legal : (e : Entry) → length e.head ≡ 11 → Bytes e.head → length e.skipped ≡ D - 11 → Bytes e.skipped → (entry tests D).codec.legal e
    unfolding entry named padded
    entry-legal e l b m z = (l, b, m, z)

    pub fields-print : (f : Fields) → (fields tests D).codec.print f ≡ little 2 (length f.entries) ++ (times_print (entry tests D).codec f.entries ++ times_print (name tests).codec f.names)
    unfolding fields named sized ◌then◌ times
    fields-print f = refl

    pub fields-legal : (f : Fields) → length f.entries < 65536 → length f.names ≡ length f.entries → TimesLegal (entry tests D).codec f.entries → TimesLegal (name tests).codec f.names → (fields tests D).codec.legal f
    unfolding fields named sized ◌then◌ times
    fields-legal f l n e m = (l, ((refl, e), (n, m)))

    entries-each : (P : ℕ → List ℕ → Type 0) (es : List Entry) → TimesEach (entry tests D).codec P es
    unfolding entry named padded
    entries-each P [] = tt
    entries-each P (e ∷ es) = (tt, entries-each P es)

    pub fields-each : (P : ℕ → List ℕ → Type 0) (f : Fields) → TimesEach (name tests).codec P f.names → (fields tests D).codec.each P f
    unfolding fields named sized ◌then◌ times
    fields-each P f h = (entries-each P f.entries, h)

    pub struct_print : (s : StructL) → s.rest ≡ [] → (struct_l tests D).codec.print s ≡ little 2 (2 + length ((struct_body tests D).codec.print (s.size, (s.name, s.fields)))) ++ (struct_body tests D).codec.print (s.size, (s.name, s.fields))
    unfolding struct_l named
    struct_print s e = rw e (section-print (struct_body tests D) (s.size, (s.name, s.fields)))

    pub struct_body-print : (n : ℕ) (m : Name) (f : Fields) → (struct_body tests D).codec.print (n, (m, f)) ≡ little 2 n ++ ((name tests).codec.print m ++ (fields tests D).codec.print f)
    unfolding ◌then◌ num
    struct_body-print n m f = refl

    pub struct_legal : (s : StructL) → s.rest ≡ [] → s.size < 65536 → (name tests).codec.legal s.name → (fields tests D).codec.legal s.fields → length ((struct_l tests D).codec.print s) < 65536 → (struct_l tests D).codec.legal s
    unfolding struct_l named ◌then◌ num
    struct_legal s e z n f h =
        let p : length ((struct_l tests D).codec.print s) ≡ 2 + length ((struct_body tests D).codec.print (s.size, (s.name, s.fields))) = omega (arith, ap length (struct_print s e)) in
        rw e (section-legal (struct_body tests D) (s.size, (s.name, s.fields)) (z, (n, f)) (omega arith))

    pub struct_each : (P : ℕ → List ℕ → Type 0) (s : StructL) → (name tests).codec.each P s.name → (fields tests D).codec.each P s.fields → (struct_l tests D).codec.each P s
    unfolding struct_l named ◌then◌ num
    struct_each P s n f = section_holds (struct_body tests D) P _ (tt, (n, f))

    abbrev pub record_parts : RecordL → ℕ × (ℕ × (ℕ × (ℕ × (Name × Fields))))
    record_parts r = (r.rtype, (r.schema, (r.base, (r.hash, (r.name, r.fields)))))

    pub record_print : (r : RecordL) → r.rest ≡ [] → (record_l tests D).codec.print r ≡ little 2 (2 + length ((record_body tests D).codec.print (record_parts r))) ++ (record_body tests D).codec.print (record_parts r)
    unfolding record_l named
    record_print r e = rw e (section-print (record_body tests D) (record_parts r))

    pub record_body-print : (r : RecordL) → (record_body tests D).codec.print (record_parts r)
        ≡ little 2 r.rtype ++ (little 2 r.schema ++ (little 2 r.base ++ (little 8 r.hash ++ ((name tests).codec.print r.name ++ (fields tests D).codec.print r.fields))))
    unfolding ◌then◌ num
    record_body-print r = refl

    pub record_legal : (r : RecordL) → r.rest ≡ [] → r.rtype < 65536 → r.schema < 65536 → r.base < 65536 → r.hash < 18446744073709551616 → (name tests).codec.legal r.name → (fields tests D).codec.legal r.fields
        → length ((record_l tests D).codec.print r) < 65536 → (record_l tests D).codec.legal r
    unfolding record_l named ◌then◌ num
    record_legal r e t s b g n f h =
        let p : length ((record_l tests D).codec.print r) ≡ 2 + length ((record_body tests D).codec.print (record_parts r)) = omega (arith, ap length (record_print r e)) in
        rw e (section-legal (record_body tests D) (record_parts r) (t, (s, (b, (g, (n, f))))) (omega arith))

    pub record_each : (P : ℕ → List ℕ → Type 0) (r : RecordL) → (name tests).codec.each P r.name → (fields tests D).codec.each P r.fields → (record_l tests D).codec.each P r
    unfolding record_l named ◌then◌ num
    record_each P r n f = section_holds (record_body tests D) P _ (tt, (tt, (tt, (tt, (n, f)))))

    pub layout-print : (t : Layout) → t.rest ≡ [] → print_layout tests D t
        ≡ little 2 t.version ++ ((little 2 (length t.records) ++ times_print (record_l tests D).codec t.records) ++ ((little 2 (length t.structs) ++ times_print (struct_l tests D).codec t.structs) ++ (little 2 (length t.labels) ++ times_print (label_def tests).codec t.labels)))
    unfolding print_layout parts groups ◌then◌ sized times num
    layout-print t e = ap (λ v. (parts tests D).codec.print (from_layout t).0 ++ v) e ∙ append-nil ((parts tests D).codec.print (from_layout t).0)

    pub layout-legal : (t : Layout) → t.rest ≡ [] → t.version < 65536
        → length t.records < 65536 → TimesLegal (record_l tests D).codec t.records
        → length t.structs < 65536 → TimesLegal (struct_l tests D).codec t.structs
        → length t.labels < 65536 → TimesLegal (label_def tests).codec t.labels → LegalLayout tests D t
    unfolding LegalLayout parts groups ◌then◌ sized times num
    layout-legal t e v r rs s ss l ls = ((v, ((r, (refl, rs)), ((s, (refl, ss)), (l, (refl, ls))))), λ k. rw e (omega arith))

    pub located-version : (t : Layout) → (locate_layout tests D t).version ≡ t.version
    unfolding locate_layout parts ◌then◌ num
    located-version t = refl

    pub layout-each : (P : ℕ → List ℕ → Type 0) (t : Layout) → TimesEach (record_l tests D).codec P t.records → TimesEach (struct_l tests D).codec P t.structs → TimesEach (label_def tests).codec P t.labels → EachName tests D P t
    unfolding EachName parts groups ◌then◌ sized times num
    layout-each P t r s l = (tt, (r, (s, l)))

-- ---- what is printed reads back

-- the layout that is read has the same rows and texts, starts apart
pub record Reads (t : Layout) (area : List ℕ) : Type 0 where
  pub accepted : layout_of (print_layout all_tests D t) ≡ ok (locate_layout all_tests D t) (length (print_layout all_tests D t))
  pub version : (locate_layout all_tests D t).version ≡ t.version
  pub same_rows : map no_start (rows (locate_layout all_tests D t)) ≡ map no_start (rows t)
  pub same_texts : map (row_text (print_layout all_tests D t)) (rows (locate_layout all_tests D t)) ≡ map (row_text area) (rows t)

-- places do not matter to what is left without them
pub parts-still : (t : Layout) → (parts all_tests D).codec.bare (from_layout (locate_layout all_tests D t)).0 ≡ (parts all_tests D).codec.bare (from_layout t).0
unfolding locate_layout
parts-still t = (parts all_tests D).law.still 0 (from_layout t).0

bare-still : (t : Layout) → bare_layout all_tests D (locate_layout all_tests D t) ≡ bare_layout all_tests D t
unfolding bare_layout
bare-still t = ap (λ v. to_layout (v, [])) (parts-still t)

-- a layout that has bytes, and whose names stand in `area` at their starts
pub reads : (t : Layout) (area : List ℕ) → LegalLayout all_tests D t → length (print_layout all_tests D t) ≤ 4294967295
    → EachName all_tests D (λ n u. take (length u) (drop n area) ≡ u) t → Reads t area
unfolding layout_by
reads t area lg h each =
    let r = parse-print all_tests D t lg in
    record {
      accepted = rw (le-leb (length (print_layout all_tests D t)) 4294967295 h) r;
      version = located-version all_tests D t;
      same_rows = rows-bare all_tests D (locate_layout all_tests D t) ∙ ap rows (bare-still t) ∙ sym (rows-bare all_tests D t);
      same_texts = row-texts all_tests D (print_layout all_tests D t) (locate_layout all_tests D t) _ (layout-octets all_tests D t lg) r
          ∙ texts-bare all_tests D (locate_layout all_tests D t) ∙ ap texts (bare-still t) ∙ sym (texts-bare all_tests D t) ∙ sym (texts-each all_tests D area t each);
    }
