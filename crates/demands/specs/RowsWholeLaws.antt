-- The rows of a plain layout, lent back with the bytes that it was read from as the text, are refused by none of 90 to 95. Assumes nothing.
use Rattle.std.specs.Prelude.{ℕ, suc, ◌+◌, ◌-◌, ◌%◌, ◌≤◌, ◌≡◌, Bool, false, cond, get_or, eqb, leb, ltb}
use native.Mathlib.Omega.{arith}
use Rattle.std.proofs.Math.Path.{refl, ap}
use Rattle.std.proofs.Common.{sym, ◌∙◌, subst}
use Rattle.std.proofs.Math.Bool.{true}
use mathlib.Core.List.{List, [], ◌∷◌, ◌++◌, map}
use Rattle.std.proofs.Math.ListN.{length, length-append}
use Rattle.std.proofs.lemmas.List.{length-map}
use borrow.Author.Tests.{le-leb, eq-eqb}
use Rattle.codec.specs.Codec.{Bytes, ok}
use Rattle.wire.specs.Reader.{all_tests}
use Rattle.table.specs.Table.{flat, all_rows}
use Rattle.table.specs.EachLaws.{Each, each_append}
use Rattle.layout.specs.Layout.{Fields, Label, LabelDef, Layout, print_layout}
use Rattle.layout.specs.LayoutOf.{D, fields, record_l, struct_l, label_def, layout_of}
use Rattle.layout.specs.Rows.{entry_row, name_row, field_rows, record_rows, struct_rows, label_row, label_def_rows, rows}
use Rattle.layout.specs.ReadLaws.{rows-flat}
use Rattle.layout.specs.NameCountLaws.{AllOf}
use Rattle.layout.specs.PrintLaws.{Rising}
use Rattle.layout.specs.LawfulLaws.{fields-lawful, record_bytes, record_lawful, struct_bytes, struct_lawful, label_def-bytes, label_def-lawful}
use Rattle.rows_check.specs.Tree.{cell, row_count, has_fields, count_of, names_from, next_section, skip, kinds, structs_from, labels_from}
use Rattle.rows_check.specs.Check.{both, every, row_test, passes, name_kind, section_in_place, walk, in_order, well_formed, groups_fit, counts_fit, printed_section, fits_all, sections_fit, printed, size, rises_at, labels_rise, fit_fault, fault}
use Rattle.rows_check.specs.CheckLaws.{next_more}
use Rattle.rows_check.specs.SectionLaws.{names-after, printed-length}
use Rattle.tidy.specs.Plain.{PlainRecord, PlainStruct, PlainLabelDef, Plain}
use Rattle.demands.specs.StandLaws.{Stand, stand-append}
use Rattle.demands.specs.FineRowLaws.{each_free, each_rows, each_of, each-passes, Fine, record_fine, struct_fine, label_def_fine}
use Rattle.demands.specs.RowsBackLaws.{Settled, number, Group, group_first, group_next, group_rest, group_end, Planted, planted, table_of, table-stands, table-count, record_count, struct_count, label_def_count, of_records, of_structs, of_labels, rows-groups, records_group, records-end, structs_group, structs_end, labels_group, tree-back}

-- ---- sections in their places

module _ (table text : List ℕ) where
  -- rows of one kind pass the test of that kind
  kind-passes : {A : Type 0} (kind : ℕ) (row : A → List ℕ) → ((x : A) → row_test kind (row x) text 0 ≡ true) → (xs : List A) (q : ℕ) → Stand table q (map row xs) → passes kind table text q (length xs) ≡ true
  kind-passes kind row k xs q h = rw (length-map xs row) at (each-passes kind table text (map row xs) q (each_free _ row k xs) h)

  -- so do the entries and the names of fields
  fields_pass : (f : Fields) → fields.legal f → (q : ℕ) → Stand table q (field_rows f) → (passes 11 table text q (length f.entries) ≡ true) × (passes 12 table text (q + length f.entries) (length f.entries) ≡ true)
  unfolding row_test
  fields_pass f lg q h =
      let w = stand-append table (map entry_row f.entries) (map name_row f.names) q h in
      (kind-passes 11 entry_row (λ e. refl) f.entries q w.0, rw (length-map f.entries entry_row, (fields-lawful all_tests D f lg).even) at (kind-passes 12 name_row (λ n. refl) f.names (q + length (map entry_row f.entries)) w.1))

  -- a section is in its place where its own row has its kind, its rows end within the table, and its entries and names pass
  in_place : (kind q : ℕ) → cell table q 0 ≡ kind → next_section kind table q ≤ row_count table → passes 11 table text (q + 1) (names_from kind table q - (q + 1)) ≡ true
      → passes (name_kind kind) table text (names_from kind table q) (count_of kind table q) ≡ true → section_in_place kind table text q ≡ true
  unfolding section_in_place both
  in_place kind q k h f n =
      let l : q + 1 ≤ row_count table = omega (arith, next_more kind table q) in
      rw (le-leb (q + 1) (row_count table) l, eq-eqb (cell table q 0) kind k, le-leb (next_section kind table q) (row_count table) h, f, n)

  -- where the rows of x stand from row q on, and end within the table, the section at that row is in its place
  abbrev PlacesOf : {A : Type 0} → ℕ → (A → List (List ℕ)) → (A → Type 0) → Type 0
  PlacesOf {A = A} kind rows_of P = (x : A) → P x → (q : ℕ) → Stand table q (rows_of x) → next_section kind table q ≤ row_count table → section_in_place kind table text q ≡ true

  -- a section with fields
  fields_in_place : (kind q : ℕ) (f : Fields) → fields.legal f → Stand table (q + 1) (field_rows f) → cell table q 0 ≡ kind → next_section kind table q ≤ row_count table
      → has_fields kind ≡ true → count_of kind table q ≡ length f.entries → name_kind kind ≡ 12 → section_in_place kind table text q ≡ true
  fields_in_place kind q f lg h k l a b w =
      let v = fields_pass f lg (q + 1) h in
      let n : q + 1 + length f.entries - (q + 1) ≡ length f.entries = omega arith in
      in_place kind q k l (rw (names-after kind table q a, b, n) v.0) (rw (w, names-after kind table q a, b) v.1)

  -- a record, a struct, a label def
  record_in_place : PlacesOf 10 record_rows (Settled text record_l PlainRecord)
  unfolding count_of name_kind
  record_in_place r (g, p) q (h, hs) l = fields_in_place 10 q r.fields (record_lawful all_tests D r g.0).fields hs (number h 0) l refl (number h 6) refl

  struct_in_place : PlacesOf 13 struct_rows (Settled text struct_l PlainStruct)
  unfolding count_of name_kind
  struct_in_place s (g, p) q (h, hs) l = fields_in_place 13 q s.fields (struct_lawful all_tests D s g.0).fields hs (number h 0) l refl (number h 4) refl

  label_def_in_place : PlacesOf 14 label_def_rows (Settled text label_def PlainLabelDef)
  unfolding names_from count_of name_kind row_test every
  label_def_in_place d g q (h, hs) l =
      let n : q + 1 - (q + 1) ≡ 0 = omega arith in
      in_place 14 q (number h 0) l (rw n) (rw (number h 3) (kind-passes 15 label_row (λ x. refl) d.labels (q + 1) hs))

  module _ {A : Type 0} {kind : ℕ} {part : ℕ → A} {rows_of : A → List (List ℕ)} {P : A → Type 0} where
    -- sections that are in their places are walked over
    group_walk : PlacesOf kind rows_of P → {q : ℕ} (xs : List A) → Group table kind part rows_of P q xs → q + length (all_rows rows_of xs) ≤ row_count table → walk kind table text q (length xs) ≡ skip kind table q (length xs)
    unfolding walk skip
    group_walk place [] g l = refl
    group_walk place {q} (x ∷ xs) g l =
        let n = group_next g in
        let k = length-append (rows_of x) (all_rows rows_of xs) in
        rw (place x g.each.0 q (group_first g) (omega arith)) (group_walk place {q = next_section kind table q} xs (group_rest g) (omega arith))

    -- and they fit where what each prints does
    group_fits : (print : A → List ℕ) → ((q : ℕ) → printed_section kind table text q ≡ print (part q)) → ((x : A) → P x → length (print x) ≤ 65535)
        → {q : ℕ} (xs : List A) → Group table kind part rows_of P q xs → fits_all kind table text q (length xs) ≡ true
    unfolding fits_all both
    group_fits print sec short [] g = refl
    group_fits print sec short {q} (x ∷ xs) g =
        let e = sec q ∙ ap print (g.kindly.back x g.each.0 q (group_first g)) in
        rw (e, le-leb (length (print x)) 65535 (short x g.each.0)) (group_fits print sec short {q = next_section kind table q} xs (group_rest g))

-- ---- labels that rise

-- a row that is a label has a code that is not below `least`
abbrev rises_from : ℕ → List ℕ → Bool
rises_from least r = cond (eqb (get_or r 0 0) 15) (leb least (get_or r 3 0)) true

-- the least that a label may have after that row: one more than a label's code
abbrev least_after : List ℕ → ℕ
least_after r = cond (eqb (get_or r 0 0) 15) (suc (get_or r 3 0)) 0

-- each row of some is so, after the one before it
abbrev Climb : ℕ → List (List ℕ) → Type 0
Climb least [] = Unit {0}
Climb least (r ∷ rs) = (rises_from least r ≡ true) × Climb (least_after r) rs

-- a row that is no label
abbrev NoLabel : List ℕ → Type 0
NoLabel r = eqb (get_or r 0 0) 15 ≡ false

-- rows that are no labels climb, before rows that climb whatever is before them
climb_over : (rs more : List (List ℕ)) → Each NoLabel rs → ((least : ℕ) → Climb least more) → (least : ℕ) → Climb least (rs ++ more)
climb_over [] more e c least = c least
climb_over (r ∷ rs) more e c least = (rw e.0, climb_over rs more e.1 c (least_after r))

-- and so do labels that rise
climb_labels : (ls : List Label) (more : List (List ℕ)) (least : ℕ) → Rising all_tests least ls → ((least : ℕ) → Climb least more) → Climb least (map label_row ls ++ more)
climb_labels [] more least r c = c least
climb_labels (l ∷ ls) more least r c = (le-leb least l.code r.0, climb_labels ls more (suc l.code) r.1 c)

-- the rows of plain label defs climb, whatever is before them
climb_defs : (text : List ℕ) (ds : List LabelDef) → AllOf (Settled text label_def PlainLabelDef) ds → (least : ℕ) → Climb least (all_rows label_def_rows ds)
climb_defs text [] p least = tt
climb_defs text (d ∷ ds) p least = (refl, climb_labels d.labels (all_rows label_def_rows ds) 0 p.0.1.rising (climb_defs text ds p.1))

-- fields have no row of a label
fields-no-labels : (f : Fields) → Each NoLabel (field_rows f)
fields-no-labels f = each_append NoLabel (map entry_row f.entries) (map name_row f.names) (each_free NoLabel entry_row (λ e. refl) f.entries) (each_free NoLabel name_row (λ n. refl) f.names)

-- what 95 asks of two rows, from what the second is asked after the first
rises_next : (a b : Bool) (x y : ℕ) → cond b (leb (cond a (suc x) 0) y) true ≡ true → cond a (cond b (ltb x y) true) true ≡ true
rises_next true true x y e = e
rises_next true false x y e = refl
rises_next false b x y e = refl

-- rows that climb pass 95
climb_rises : (table : List ℕ) (r : List ℕ) (rs : List (List ℕ)) (q least : ℕ) → Stand table q (r ∷ rs) → Climb least (r ∷ rs) → every (rises_at table) q (length rs) ≡ true
unfolding every both rises_at
climb_rises table r [] q least h c = refl
climb_rises table r (r' ∷ rs) q least h c =
    let e = rises_next (eqb (get_or r 0 0) 15) (eqb (get_or r' 0 0) 15) (get_or r 3 0) (get_or r' 3 0) c.1.0 in
    rw (number h.0 0, number h.0 3, number h.1.0 0, number h.1.0 3, e) (climb_rises table r' rs (q + 1) (least_after r) h.1 c.1)

-- ---- all of it

module _ (s : List ℕ) (t : Layout) (p : Planted s t) where
  abbrev table : List ℕ
  table = table_of t

  -- every row is fine
  rows-fine : Each (Fine s) (rows t)
  rows-fine =
      subst (Each (Fine s)) (sym (rows-groups t))
      (each_append (Fine s) (of_records t) (of_structs t ++ of_labels t) (each_rows (Fine s) _ record_rows (λ r g. record_fine s p.small r g.0) t.records p.records)
      (each_append (Fine s) (of_structs t) (of_labels t) (each_rows (Fine s) _ struct_rows (λ x g. struct_fine s p.small x g.0) t.structs p.structs)
      (each_rows (Fine s) _ label_def_rows (λ d g. label_def_fine s p.small d g.0) t.labels p.labels)))

  -- so the table passes each test of rows
  all_pass_lem : (which : ℕ) → ((r : List ℕ) → Fine s r → row_test which r s 0 ≡ true) → passes which table s 0 (row_count table) ≡ true
  all_pass_lem which f = rw (table-count t) (each-passes which table s (rows t) 0 (each_of (Fine s) (λ r. row_test which r s 0 ≡ true) f (rows t) rows-fine) (table-stands t))

  -- how many rows there are
  rows-length : row_count table ≡ length (of_records t) + (length (of_structs t) + length (of_labels t))
  rows-length = table-count t ∙ ap length (rows-groups t) ∙ length-append (of_records t) (of_structs t ++ of_labels t) ∙ ap (length (of_records t) +◌) (length-append (of_structs t) (of_labels t))

  -- the label defs are the last of them
  labels-last : labels_from table + length (of_labels t) ≡ row_count table
  labels-last = omega (arith, rows-length, records-end s t p, structs_end s t p)

  -- the sections are walked over, to the end of the table
  walk-records : walk 10 table s 0 (kinds table 10) ≡ structs_from table
  walk-records = rw (record_count t) (group_walk table s (record_in_place table s) t.records (records_group s t p) (omega (arith, rows-length)))

  walk-structs : walk 13 table s (structs_from table) (kinds table 13) ≡ labels_from table
  walk-structs = rw (struct_count t) (group_walk table s (struct_in_place table s) t.structs (structs_group s t p) (omega (arith, labels-last, structs_end s t p)))

  walk-labels : walk 14 table s (labels_from table) (kinds table 14) ≡ row_count table
  walk-labels =
      rw (label_def_count t) (group_walk table s (label_def_in_place table s) t.labels (labels_group s t p) (omega (arith, labels-last))
      ∙ group_end t.labels (labels_group s t p) ∙ labels-last)

  -- not 90
  formed : well_formed table s ≡ true
  unfolding well_formed in_order both
  formed =
      let n : length table % 9 ≡ 0 = omega (arith, rows-flat t) in
      rw (n, all_pass_lem 90 (λ r f. f.fits), walk-records, walk-structs, walk-labels) (eq-eqb (row_count table) (row_count table) refl)

  -- not 91
  counts-fit : counts_fit table s ≡ true
  unfolding counts_fit groups_fit both
  counts-fit =
      let c = p.lawful in
      rw (all_pass_lem 91 (λ r f. f.counts), record_count t, struct_count t, label_def_count t, le-leb (length t.records) 65535 (omega (arith, c.records-count)), le-leb (length t.structs) 65535 (omega (arith, c.structs-count)), le-leb (length t.labels) 65535 (omega (arith, c.labels-count)))

  -- not 94, of a section
  records-fit : fits_all 10 table s 0 (kinds table 10) ≡ true
  unfolding printed_section
  records-fit = rw (record_count t) (group_fits table s record_l.print (λ q. refl) (λ r g. omega (arith, ap length (record_bytes all_tests D r), (record_lawful all_tests D r g.0.0).size)) t.records (records_group s t p))

  structs-fit : fits_all 13 table s (structs_from table) (kinds table 13) ≡ true
  unfolding printed_section
  structs-fit = rw (struct_count t) (group_fits table s struct_l.print (λ q. refl) (λ x g. omega (arith, ap length (struct_bytes all_tests D x), (struct_lawful all_tests D x g.0.0).size)) t.structs (structs_group s t p))

  labels-fit : fits_all 14 table s (labels_from table) (kinds table 14) ≡ true
  unfolding printed_section
  labels-fit = rw (label_def_count t) (group_fits table s label_def.print (λ q. refl) (λ d g. omega (arith, ap length (label_def-bytes all_tests d), (label_def-lawful all_tests d g.0.0).size)) t.labels (labels_group s t p))

  sections-fit : sections_fit table s ≡ true
  unfolding sections_fit both
  sections-fit = rw (records-fit, structs-fit, labels-fit)

  -- the bytes that the rows make are those that were read
  pub printed-back : printed t.version table s ≡ s
  unfolding printed
  printed-back = ap (print_layout all_tests D) (tree-back s t p) ∙ p.bytes

  -- not 94, of the layout
  size_fits : size table s ≤ 4294967295
  size_fits = omega (arith, p.small, printed-length table s t.version, ap length printed-back)

  -- not 95
  rows_climb : (least : ℕ) → Climb least (of_records t ++ (of_structs t ++ of_labels t))
  rows_climb =
      climb_over (of_records t) (of_structs t ++ of_labels t) (each_rows NoLabel _ record_rows (λ r g. (refl, fields-no-labels r.fields)) t.records p.records)
      (climb_over (of_structs t) (of_labels t) (each_rows NoLabel _ struct_rows (λ x g. (refl, fields-no-labels x.fields)) t.structs p.structs)
      (climb_defs s t.labels p.labels))

  labels_rise_lem : labels_rise table ≡ true
  unfolding every
  labels_rise_lem = go (rows t) (table-stands t) (subst (Climb 0) (sym (rows-groups t)) (rows_climb 0)) (table-count t)
    where
      go : (rs : List (List ℕ)) → Stand table 0 rs → Climb 0 rs → row_count table ≡ length rs → labels_rise table ≡ true
      go [] h c e = rw e
      go (r ∷ rs) h c e = let n : row_count table - 1 ≡ length rs = omega arith in rw n (climb_rises table r rs 0 0 h c)

  -- none of 90 to 95
  pub fault-none : fault true table s ≡ 0
  unfolding fault fit_fault both
  fault-none = rw (formed, counts-fit, all_pass_lem 92 (λ r f. f.short), all_pass_lem 93 (λ r f. f.clean), sections-fit, le-leb (size table s) 4294967295 size_fits, labels_rise_lem)

-- the rows of a plain layout, with the bytes that it was read from as their text, are refused by none of 90 to 95
pub rows_whole : (s : List ℕ) (t : Layout) (j : ℕ) → Bytes s → layout_of s ≡ ok t j → Plain t → fault true (flat (rows t)) s ≡ 0
rows_whole s t j bs e plain = fault-none s t (planted s t j bs e plain)
