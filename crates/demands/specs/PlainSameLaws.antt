-- A plain layout's bytes are told by its version, its rows without their starts and its texts: rows are in wire order, so each gives the bytes
-- that it stands for, and those of a section are collected from its end on. So plain layouts with the same of these have the same bytes.
-- Assumes nothing.
use Rattle.std.specs.Prelude.{ℕ, ◌+◌, ◌*◌, ◌/◌, ◌%◌, ◌≡◌, refl, Bool, true, false, cond, List, [], ◌∷◌, ◌++◌, map, length, get_or, eqb, Ok}
use Rattle.std.proofs.Common.{arith, sym, ap, ap₂, ◌∙◌, append_assoc, append-nil}
use Rattle.std.proofs.lemmas.List.{length-map}
use Rattle.codec.specs.Codec.{ok, Codec, Bytes, little, times_print, TimesLegal}
use Rattle.entry.specs.Entry.{row_bytes}
use Rattle.table.specs.Table.{flat}
use Rattle.wire.specs.Formats.{Name}
use Rattle.wire.specs.Reader.{all_tests, name}
use Rattle.wire.specs.FormatLaws.{name-print}
use Rattle.layout.specs.Layout.{Entry, Fields, RecordL, StructL, Label, LabelDef, Layout, print_layout, locate_layout, LegalLayout}
use Rattle.layout.specs.LayoutOf.{D, entry, fields, label, record_l, struct_l, label_def}
use Rattle.layout.specs.LayoutLaws.{Parsed, parse-print, layout-octets}
use Rattle.layout.specs.LawfulLaws.{entry-lawful, fields-lawful, record_lawful, struct_lawful, layout-lawful}
use Rattle.layout.specs.NameCountLaws.{AllOf}
use Rattle.layout.specs.PrintLaws.{entry-print, label-print, label_def-print, label_body-print, fields-print, struct_print, struct_body-print, record_print, record_body-print, layout-print}
use Rattle.layout.specs.Rows.{entry_row, name_row, field_rows, record_rows, struct_rows, label_row, label_def_rows, rows}
use Rattle.layout.specs.RowLaws.{no_start}
use Rattle.layout.specs.TextLaws.{row_text, field_texts, record_texts, struct_texts, label_texts, texts, row-texts}
use Rattle.rows_check.specs.Tree.{cell, entry_of, count_of}
use Rattle.rows_check.specs.Sections.{printed_entry, printed_numbers}
use Rattle.rules.specs.Rules.{ruled_of}
use Rattle.tidy.specs.Plain.{PlainEntry, PlainRecord, PlainStruct, PlainLabelDef, Plain}
use Rattle.tidy.specs.Tidy.{tidy_of}
use Rattle.demands.specs.RowsBackLaws.{head-back}
use Rattle.demands.specs.PlainLaws.{ruled_parsed, tidy_plain}

-- ---- the bytes of a row

-- the bytes of a name with this text
abbrev name_bytes : List ℕ → List ℕ
name_bytes u = name.print (record { start = 0; text = u })

-- of a row that begins a section: its numbers, the name, and the count of what follows
abbrev head_bytes : List ℕ → List ℕ → List ℕ
head_bytes r u = printed_numbers (get_or r 0 0) r 0 ++ (name_bytes u ++ little 2 (count_of (get_or r 0 0) r 0))

-- of any other: an entry, a label, a name
abbrev inner_bytes : List ℕ → List ℕ → List ℕ
inner_bytes r u = cond (eqb (get_or r 0 0) 11) (printed_entry r 0) (cond (eqb (get_or r 0 0) 15) (little 2 (cell r 0 3) ++ name_bytes u) (name_bytes u))

-- 10, 13 and 14 begin a section
abbrev begins : ℕ → Bool
begins kind = cond (eqb kind 10) true (cond (eqb kind 13) true (eqb kind 14))

-- ---- rows and their texts as sections

-- bytes that wait for the row that begins their section, and the sections after them, each with its kind
record Split : Type 0 where
  waiting : List ℕ
  sections : List (ℕ × List ℕ)

-- a section is its length, which counts its own two bytes, and its body
abbrev framed : List ℕ → List ℕ
framed b = little 2 (2 + length b) ++ b

-- bytes more that wait
abbrev inner : List ℕ → Split → Split
inner b s = record { waiting = b ++ s.waiting; sections = s.sections }

-- the section begins with these bytes, and nothing waits before it
abbrev begun : ℕ → List ℕ → Split → Split
begun kind b s = record { waiting = []; sections = (kind, framed (b ++ s.waiting)) ∷ s.sections }

-- a row and its text, with what the rows after it give
abbrev step : List ℕ → List ℕ → Split → Split
step r u s = cond (begins (get_or r 0 0)) (begun (get_or r 0 0) (head_bytes r u) s) (inner (inner_bytes r u) s)

-- row by row, each with its text
unfoldable split : List (List ℕ) → List (List ℕ) → Split
split [] us = record { waiting = []; sections = [] }
split (r ∷ rs) [] = record { waiting = []; sections = [] }
split (r ∷ rs) (u ∷ us) = step r u (split rs us)

-- a start changes no byte
start-free : (r u : List ℕ) (s : Split) → step (no_start r) u s ≡ step r u s
unfolding count_of row_bytes
start-free [] u s = refl
start-free (k ∷ []) u s = refl
start-free (k ∷ n ∷ r) u s = go (eqb k 11) refl
  where
    go : (b : Bool) → eqb k 11 ≡ b → step (no_start (k ∷ n ∷ r)) u s ≡ step (k ∷ n ∷ r) u s
    go true e = rw e
    go false e = rw e

-- the starts of rows change no section
split-free : (rs us : List (List ℕ)) → split (map no_start rs) us ≡ split rs us
unfolding split
split-free [] us = refl
split-free (r ∷ rs) [] = refl
split-free (r ∷ rs) (u ∷ us) = start-free r u (split (map no_start rs) us) ∙ ap (step r u) (split-free rs us)

-- ---- rows within a section

-- an item whose row gives its bytes, within a section
abbrev Gives : {A : Type 0} → Codec A → (A → List ℕ) → (A → List ℕ) → A → Type 0
Gives c row text x = (s : Split) → step (row x) (text x) s ≡ inner (c.print x) s

-- what holds of every item holds of all
always : {A : Type 0} (P : A → Type 0) → ((x : A) → P x) → (xs : List A) → AllOf P xs
always P one [] = tt
always P one (x ∷ xs) = (one x, always P one xs)

-- what follows for each item that is legal and plain
all-legal : {A : Type 0} (c : Codec A) (P Q : A → Type 0) → ((x : A) → c.legal x → P x → Q x) → (xs : List A) → TimesLegal c xs → AllOf P xs → AllOf Q xs
all-legal c P Q one [] lg h = tt
all-legal c P Q one (x ∷ xs) lg h = (one x lg.0 h.0, all-legal c P Q one xs lg.1 h.1)

-- bytes that wait before others
inner-inner : (a b : List ℕ) (s : Split) → inner a (inner b s) ≡ inner (a ++ b) s
inner-inner a b s = ap (λ w. record { waiting = w; sections = s.sections }) (sym (append_assoc a b s.waiting))

-- such items give their bytes one after the other
items_give : {A : Type 0} (c : Codec A) (row text : A → List ℕ) (xs : List A) → AllOf (Gives c row text) xs
    → (rs us : List (List ℕ)) → split (map row xs ++ rs) (map text xs ++ us) ≡ inner (times_print c xs) (split rs us)
unfolding split
items_give c row text [] g rs us = refl
items_give c row text (x ∷ xs) g rs us =
    g.0 (split (map row xs ++ rs) (map text xs ++ us)) ∙ ap (inner (c.print x)) (items_give c row text xs g.1 rs us) ∙ inner-inner (c.print x) (times_print c xs) (split rs us)

-- the bytes of a name are those of its text, wherever it starts
name_free : (n : Name) → name_bytes n.text ≡ name.print n
name_free n = name-print all_tests (record { start = 0; text = n.text }) ∙ sym (name-print all_tests n)

-- the rows of a name, a label and an entry give its bytes
name_gives : (n : Name) → Gives name name_row (λ m. m.text) n
name_gives n s = ap (λ b. inner b s) (name_free n)

label_gives : (l : Label) → Gives label label_row (λ m. m.name.text) l
label_gives l s = ap (λ b. inner b s) (ap (λ v. little 2 l.code ++ v) (name_free l.name) ∙ sym (label-print all_tests l))

entry_gives : (e : Entry) → entry.legal e → PlainEntry e → Gives entry entry_row (λ _. []) e
entry_gives e lg h s =
    let l = entry-lawful all_tests D e lg in
    ap (λ b. inner b s) (entry-print all_tests D (entry_of (entry_row e) 0) ∙ ap₂ ◌++◌ (head-back e.head l.eleven l.octets) (sym h) ∙ sym (entry-print all_tests D e))

-- the entries and the names after the count
abbrev item_bytes : Fields → List ℕ
item_bytes f = times_print entry f.entries ++ times_print name f.names

-- fields give their entries and their names
fields_give : (f : Fields) → fields.legal f → AllOf PlainEntry f.entries → (rs us : List (List ℕ))
    → split (field_rows f ++ rs) (field_texts f ++ us) ≡ inner (item_bytes f) (split rs us)
fields_give f lg h rs us =
    ap₂ split (append_assoc (map entry_row f.entries) (map name_row f.names) rs) (append_assoc (map (λ _. []) f.entries) (map (λ n. n.text) f.names) us)
    ∙ items_give entry entry_row (λ _. []) f.entries (all-legal entry PlainEntry (Gives entry entry_row (λ _. [])) entry_gives f.entries (fields-lawful all_tests D f lg).entries h) _ _
    ∙ ap (inner (times_print entry f.entries)) (items_give name name_row (λ n. n.text) f.names (always (Gives name name_row (λ n. n.text)) name_gives f.names) rs us)
    ∙ inner-inner (times_print entry f.entries) (times_print name f.names) (split rs us)

-- ---- sections

-- sections of a kind, and those after them
abbrev grouped : {A : Type 0} → Codec A → ℕ → List A → Split → Split
grouped c kind xs s = record { waiting = []; sections = map (λ x. (kind, c.print x)) xs ++ s.sections }

-- a section that its rows give, where no bytes wait after them
abbrev GivesSection : {A : Type 0} → Codec A → ℕ → (A → List (List ℕ)) → (A → List (List ℕ)) → A → Type 0
GivesSection c kind rows_of textsOf x =
    (rs us : List (List ℕ)) → (split rs us).waiting ≡ [] → split (rows_of x ++ rs) (textsOf x ++ us) ≡ grouped c kind (x ∷ []) (split rs us)

-- such sections are given one after the other
sections_give : {A : Type 0} (c : Codec A) (kind : ℕ) (rows_of textsOf : A → List (List ℕ)) (xs : List A) → AllOf (GivesSection c kind rows_of textsOf) xs
    → (rs us : List (List ℕ)) → (split rs us).waiting ≡ []
    → split (flat (map rows_of xs) ++ rs) (flat (map textsOf xs) ++ us) ≡ grouped c kind xs (split rs us)
sections_give c kind rows_of textsOf [] g rs us w = ap (λ v. record { waiting = v; sections = (split rs us).sections }) w
sections_give c kind rows_of textsOf (x ∷ xs) g rs us w =
    let ih = sections_give c kind rows_of textsOf xs g.1 rs us w in
    ap₂ split (append_assoc (rows_of x) (flat (map rows_of xs)) rs) (append_assoc (textsOf x) (flat (map textsOf xs)) us)
    ∙ g.0 (flat (map rows_of xs) ++ rs) (flat (map textsOf xs) ++ us) (ap (λ s. s.waiting) ih)
    ∙ ap (grouped c kind (x ∷ [])) ih

-- the row that begins a section, and rows within it that give b, give the section
begun_gives : {A : Type 0} (c : Codec A) (x : A) (kind : ℕ) (r u : List ℕ) (rows_in textsIn : List (List ℕ)) (b : List ℕ) → begins kind ≡ true
    → ((rs us : List (List ℕ)) → split (rows_in ++ rs) (textsIn ++ us) ≡ inner b (split rs us)) → c.print x ≡ framed (head_bytes (kind ∷ r) u ++ b)
    → GivesSection c kind (λ _. (kind ∷ r) ∷ rows_in) (λ _. u ∷ textsIn) x
unfolding split
begun_gives c x kind r u rows_in textsIn b t g e rs us w =
    ap (step (kind ∷ r) u) (g rs us)
    ∙ rw t (ap (λ v. record { waiting = []; sections = (kind, v) ∷ (split rs us).sections }) (ap (λ v. framed (head_bytes (kind ∷ r) u ++ v)) (ap (λ v. b ++ v) w ∙ append-nil b) ∙ sym e))

-- a name, the count of what follows, and that
name-count : (n : Name) (k : ℕ) (b : List ℕ) → name.print n ++ (little 2 k ++ b) ≡ (name_bytes n.text ++ little 2 k) ++ b
name-count n k b = ap (λ v. v ++ (little 2 k ++ b)) (sym (name_free n)) ∙ sym (append_assoc (name_bytes n.text) (little 2 k) b)

-- a name and fields
name-fields : (n : Name) (f : Fields) → name.print n ++ fields.print f ≡ (name_bytes n.text ++ little 2 (length f.entries)) ++ item_bytes f
name-fields n f = ap (λ v. name.print n ++ v) (fields-print all_tests D f) ∙ name-count n (length f.entries) (item_bytes f)

-- the rows of a record, a struct and a label def give its section
record_gives : (r : RecordL) → record_l.legal r → PlainRecord r → GivesSection record_l 10 record_rows record_texts r
unfolding count_of
record_gives r lg h =
    let f = r.fields in
    let hash : r.hash ≡ r.hash % 4294967296 + 4294967296 * (r.hash / 4294967296) = omega arith in
    begun_gives record_l r 10 _ _ (field_rows f) (field_texts f) (item_bytes f) refl (fields_give f (record_lawful all_tests D r lg).fields h.entries)
    (record_print all_tests D r h.rest ∙ ap framed (record_body-print all_tests D r
    ∙ ap₂ (λ x v. little 2 r.rtype ++ (little 2 r.schema ++ (little 2 r.base ++ (little 8 x ++ v)))) hash (name-fields r.name f)))

struct_gives : (s : StructL) → struct_l.legal s → PlainStruct s → GivesSection struct_l 13 struct_rows struct_texts s
unfolding count_of
struct_gives s lg h =
    let f = s.fields in
    begun_gives struct_l s 13 _ _ (field_rows f) (field_texts f) (item_bytes f) refl (fields_give f (struct_lawful all_tests D s lg).fields h.entries)
    (struct_print all_tests D s h.rest ∙ ap framed (struct_body-print all_tests D s.size s.name f ∙ ap (λ v. little 2 s.size ++ v) (name-fields s.name f)))

label_def_gives : (d : LabelDef) → label_def.legal d → PlainLabelDef d → GivesSection label_def 14 label_def_rows label_texts d
unfolding count_of
label_def_gives d lg h =
    let ls = d.labels in
    begun_gives label_def d 14 _ _ (map label_row ls) (map (λ l. l.name.text) ls) (times_print label ls) refl
    (items_give label label_row (λ l. l.name.text) ls (always (Gives label label_row (λ l. l.name.text)) label_gives ls))
    (label_def-print all_tests d h.rest ∙ ap framed (label_body-print all_tests d.name ls ∙ name-count d.name (length ls) (times_print label ls)))

-- ---- the layout

-- the bytes of the sections of a kind
abbrev of_kind : ℕ → List (ℕ × List ℕ) → List (List ℕ)
of_kind kind [] = []
of_kind kind (z ∷ zs) = cond (eqb z.0 kind) (z.1 ∷ []) [] ++ of_kind kind zs

-- of sections of one kind, with others after them
of-kind : {A : Type 0} (f : A → List ℕ) (kind k : ℕ) (xs : List A) (zs : List (ℕ × List ℕ)) → of_kind k (map (λ x. (kind, f x)) xs ++ zs) ≡ cond (eqb kind k) (map f xs) [] ++ of_kind k zs
of-kind f kind k [] zs = go (eqb kind k)
  where
    go : (b : Bool) → of_kind k zs ≡ cond b [] [] ++ of_kind k zs
    go true = refl
    go false = refl
of-kind f kind k (x ∷ xs) zs = ap (λ v. cond (eqb kind k) (f x ∷ []) [] ++ v) (of-kind f kind k xs zs) ∙ go (eqb kind k)
  where
    go : (b : Bool) → cond b (f x ∷ []) [] ++ (cond b (map f xs) [] ++ of_kind k zs) ≡ cond b (f x ∷ map f xs) [] ++ of_kind k zs
    go true = refl
    go false = refl

-- the sections of a layout, each with its kind
abbrev sections_of : Layout → Split
sections_of t = grouped record_l 10 t.records (grouped struct_l 13 t.structs (grouped label_def 14 t.labels (split [] [])))

-- three lists, however they are put together
in_three : {A : Type 0} (x y z : List A) → (x ++ y) ++ z ≡ x ++ (y ++ (z ++ []))
in_three x y z = append_assoc x y z ∙ ap (λ v. x ++ (y ++ v)) (sym (append-nil z))

-- the rows and texts of a plain layout give its sections
layout_gives : (t : Layout) → Plain t → LegalLayout all_tests D t → split (rows t) (texts t) ≡ sections_of t
unfolding rows texts split
layout_gives t h lg =
    let l = layout-lawful all_tests D t lg in
    let ds = sections_give label_def 14 label_def_rows label_texts t.labels (all-legal label_def PlainLabelDef _ label_def_gives t.labels l.labels h.labels) [] [] refl in
    let ss = sections_give struct_l 13 struct_rows struct_texts t.structs (all-legal struct_l PlainStruct _ struct_gives t.structs l.structs h.structs) _ _ (ap (λ z. z.waiting) ds) in
    let rs = sections_give record_l 10 record_rows record_texts t.records (all-legal record_l PlainRecord _ record_gives t.records l.records h.records) _ _ (ap (λ z. z.waiting) ss) in
    ap₂ split (in_three (flat (map record_rows t.records)) (flat (map struct_rows t.structs)) (flat (map label_def_rows t.labels))) (in_three (flat (map record_texts t.records)) (flat (map struct_texts t.structs)) (flat (map label_texts t.labels)))
    ∙ rs ∙ ap (grouped record_l 10 t.records) (ss ∙ ap (grouped struct_l 13 t.structs) ds)

-- a layout's sections of a kind
layout-kind : (t : Layout) (k : ℕ) → of_kind k (sections_of t).sections
    ≡ cond (eqb 10 k) (map record_l.print t.records) [] ++ (cond (eqb 13 k) (map struct_l.print t.structs) [] ++ (cond (eqb 14 k) (map label_def.print t.labels) [] ++ []))
unfolding split
layout-kind t k =
    of-kind record_l.print 10 k t.records _
    ∙ ap (λ v. cond (eqb 10 k) (map record_l.print t.records) [] ++ v)
    (of-kind struct_l.print 13 k t.structs _ ∙ ap (λ v. cond (eqb 13 k) (map struct_l.print t.structs) [] ++ v) (of-kind label_def.print 14 k t.labels []))

-- a count and that many sections
abbrev group_bytes : List (List ℕ) → List ℕ
group_bytes bs = little 2 (length bs) ++ flat bs

-- the bytes of items are those of each, one after the other
print-flat : {A : Type 0} (c : Codec A) (xs : List A) → times_print c xs ≡ flat (map c.print xs)
print-flat c [] = refl
print-flat c (x ∷ xs) = ap (λ v. c.print x ++ v) (print-flat c xs)

-- a group's bytes, from those of its sections
group_is : {A : Type 0} (c : Codec A) (xs : List A) (bs : List (List ℕ)) → bs ≡ map c.print xs ++ [] → little 2 (length xs) ++ times_print c xs ≡ group_bytes bs
group_is c xs bs e = ap₂ (λ n b. little 2 n ++ b) (sym (length-map xs c.print)) (print-flat c xs) ∙ ap group_bytes (sym (e ∙ append-nil (map c.print xs)))

-- the bytes of a layout, from its version and its sections
abbrev bytes_of : ℕ → List (ℕ × List ℕ) → List ℕ
bytes_of version zs = little 2 version ++ (group_bytes (of_kind 10 zs) ++ (group_bytes (of_kind 13 zs) ++ group_bytes (of_kind 14 zs)))

-- a plain layout's bytes are told by its version, its rows and its texts
plain-bytes : (t : Layout) → Plain t → LegalLayout all_tests D t → print_layout all_tests D t ≡ bytes_of t.version (split (rows t) (texts t)).sections
plain-bytes t h lg =
    layout-print all_tests D t h.rest
    ∙ ap₂ (λ a b. little 2 t.version ++ (a ++ b)) (group_is record_l t.records _ (layout-kind t 10))
    (ap₂ ◌++◌ (group_is struct_l t.structs _ (layout-kind t 13)) (group_is label_def t.labels _ (layout-kind t 14)))
    ∙ ap (λ s. bytes_of t.version s.sections) (sym (layout_gives t h lg))

-- plain layouts with the same version, the same rows, starts apart, and the same texts have the same bytes
pub plain-same : (t t' : Layout) → Plain t → Plain t' → LegalLayout all_tests D t → LegalLayout all_tests D t' → t.version ≡ t'.version
    → map no_start (rows t) ≡ map no_start (rows t') → texts t ≡ texts t' → print_layout all_tests D t ≡ print_layout all_tests D t'
plain-same t t' h h' lg lg' v r u =
    let e : split (rows t) (texts t) ≡ split (rows t') (texts t') = sym (split-free (rows t) (texts t)) ∙ ap₂ split r u ∙ split-free (rows t') (texts t') in
    plain-bytes t h lg ∙ ap₂ (λ n s. bytes_of n s.sections) v e ∙ sym (plain-bytes t' h' lg')

-- ---- layouts that are read

-- what the rows name in the bytes that were read
parsed_texts : (s : List ℕ) (t : Layout) → Parsed all_tests D s t → map (row_text s) (rows t) ≡ texts t
parsed_texts s t p = rw (p.bytes, p.located) at (row-texts all_tests D (print_layout all_tests D t) (locate_layout all_tests D t) _ (layout-octets all_tests D t p.legal) (parse-print all_tests D t p.legal))

-- two tidy layouts with the same version, the same rows, starts apart, and the same names are the same bytes, whatever sheets and widths they are ruled by
pub tidy_same : (sheet : List ℕ) (width : ℕ) (sheet' : List ℕ) (width' : ℕ) (s s' : List ℕ) (t t' : Layout) (j j' : ℕ) → Bytes s → Bytes s' → ruled_of sheet width s ≡ ok t j → ruled_of sheet' width' s' ≡ ok t' j'
    → tidy_of sheet width s ≡ Ok tt → tidy_of sheet' width' s' ≡ Ok tt → t.version ≡ t'.version → map no_start (rows t) ≡ map no_start (rows t')
    → map (row_text s) (rows t) ≡ map (row_text s') (rows t') → s ≡ s'
tidy_same sheet width sheet' width' s s' t t' j j' b b' e e' y y' v r u =
    let p = ruled_parsed sheet width s t j b e in
    let p' = ruled_parsed sheet' width' s' t' j' b' e' in
    let q = sym (parsed_texts s t p) ∙ u ∙ parsed_texts s' t' p' in
    sym p.bytes ∙ plain-same t t' (tidy_plain sheet width s t j b e y) (tidy_plain sheet' width' s' t' j' b' e' y') p.legal p'.legal v r q ∙ p'.bytes
