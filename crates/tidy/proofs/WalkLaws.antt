-- A walk over the bytes of an accepted layout meets the first thing that is untidy in it. Assumes nothing.
use Prim.Native.Nat.{ℕ, suc, ◌+◌, ◌-◌, ◌/◌, ◌%◌, ◌<◌}
use native.Mathlib.Omega.{arith}
use Rattle.std.specs.Prelude.{◌≡◌, false, cond, leb, eqb, Ok, Err}
use Rattle.std.proofs.Math.Path.{refl, sym, ap}
use Rattle.std.proofs.Common.{ap₂, ◌∙◌, subst, get_or-drop, le-leb}
use mathlib.Core.List.{List, [], ◌∷◌, ◌++◌, append-nil}
use Rattle.std.proofs.Math.ListN.{length, get_or, length-append}
use Rattle.std.proofs.lemmas.Bool.{lt-leb}
use Rattle.refusal.specs.declared.Refusal.{Refusal}
use Rattle.codec.specs.Codec.{refusal, Bytes, Codec, little, times_print, TimesLegal}
use Rattle.codec.proofs.Laws.{Here, here-left, here-right}
use Rattle.codec.specs.CaseLaws.{by_bool}
use Rattle.numbers.specs.Numbers.{le16}
use Rattle.wire.specs.Formats.{Name}
use Rattle.wire.specs.Reader.{all_tests, name}
use Rattle.wire.specs.FormatLaws.{name-print, name-lawful}
use Rattle.layout.specs.Layout.{Entry, Fields, RecordL, StructL, Label, LabelDef, Layout, print_layout, LegalLayout}
use Rattle.layout.specs.LayoutOf.{D, entry, fields, label, record_l, struct_l, label_def}
use Rattle.layout.specs.PlaceLaws.{count_at}
use Rattle.layout.specs.PrintLaws.{entry-print, fields-print, label-print, label_body-print, record_body-print, struct_body-print}
use Rattle.layout.specs.LawfulLaws.{in_section, entry-lawful, fields-lawful, label-lawful, label_def-bytes, label_def-lawful, struct_bytes, struct_lawful, record_bytes, record_lawful, layout-bytes, layout-lawful, layout_parsed}
use Rattle.layout.specs.Answers.{accepted, verdict}
use Rattle.layout.specs.AnswerLaws.{verdict-ok, verdict-no}
use Rattle.rules.specs.Rules.{ruled_of}
use Rattle.engines.specs.VerdictLaws.{ruled-layout}
use Rattle.tidy.specs.Tidy.{Tidy, leftover, nonzero, each_from, in_entry, in_fields, in_labels, in_record, in_struct, in_label_def, structs_at, labels_at, untidy, first_of, told, tidy_of}
use Rattle.tidy.specs.Walk.{Met, onwards, zeros_from, entries_from, names_from, labels_from, items_from, closing, own_bytes, section_from, sections_from, group_from, layout_met, met_told}

-- the first of some untidy things, or clear up to a place
unfoldable pub met_of : List Refusal → ℕ → Met
met_of [] j = Ok j
met_of (k ∷ ks) j = Err k

-- of what comes after a part, the first is met where the part is clear
met-after : (xs ys : List Refusal) (i j : ℕ) (f : ℕ → Met) → f i ≡ met_of ys j → onwards (met_of xs i) f ≡ met_of (xs ++ ys) j
unfolding met_of
met-after [] ys i j f e = e
met-after (k ∷ xs) ys i j f e = refl

met-none : (j : ℕ) → met_of [] j ≡ Ok j
unfolding met_of
met-none j = refl

met_at : (xs : List Refusal) {i j : ℕ} → i ≡ j → met_of xs i ≡ met_of xs j
met_at xs e = ap (met_of xs) e

-- what is left over is what a closing meets
closing-met : (k p : ℕ) (rest : List ℕ) {e : ℕ} → e ≡ p + length rest → closing k p e ≡ met_of (leftover k p rest) e
unfolding closing leftover met_of
closing-met k p [] {e} q = rw (le-leb e p (omega arith))
closing-met k p (x ∷ xs) {e} q = rw (lt-leb e p (omega arith))

-- none
module _ (s : List ℕ) (a : ℕ) where
  entries_none : entries_from s a 0 ≡ Ok a
  unfolding entries_from
  entries_none = refl

  names-none : names_from s a 0 ≡ a
  unfolding names_from
  names-none = refl

  labels-none : (least : ℕ) → labels_from s a least 0 ≡ Ok a
  unfolding labels_from
  labels-none least = refl

  sections-none : (kind : ℕ) → sections_from kind s a 0 ≡ Ok a
  unfolding sections_from
  sections-none kind = refl

-- one more
module _ (s : List ℕ) (a n : ℕ) where
  entries-suc : entries_from s a (suc n) ≡ onwards (zeros_from s (a + 11) (D - 11)) λ p. entries_from s p n
  unfolding entries_from
  entries-suc = refl

  names-suc : names_from s a (suc n) ≡ names_from s (a + get_or s a 0 + 2) n
  unfolding names_from
  names-suc = refl

  labels-suc : (least : ℕ) → labels_from s a least (suc n) ≡ cond (leb least (le16 s a)) (labels_from s (a + 4 + get_or s (a + 2) 0) (le16 s a + 1) n) (Err (refusal 121 a))
  unfolding labels_from
  labels-suc least = refl

  sections-suc : (kind : ℕ) → sections_from kind s a (suc n) ≡ onwards (section_from kind s a) λ p. sections_from kind s p n
  unfolding sections_from
  sections-suc kind = refl

-- what stands in a section: its own numbers, a name, a count and as many items
abbrev contents : List ℕ → Name → ℕ → List ℕ → List ℕ
contents own n count items = own ++ (name.print n ++ (little 2 count ++ items))

module _ {s : List ℕ} where
  -- ---- bytes and numbers that stand at a place

  here-at : {i j : ℕ} {u post : List ℕ} → i ≡ j → Here s i u post → Here s j u post
  here-at {u = u} {post} e h = subst (λ (k : ℕ). Here s k u post) e h

  byte-here : (i x : ℕ) (u post : List ℕ) → Here s i (x ∷ u) post → (get_or s i 0 ≡ x) × Here s (i + 1) u post
  byte-here i x u post h =
      let z : i + 0 ≡ i = omega arith in
      (sym (ap (λ (k : ℕ). get_or s k 0) z) ∙ sym (get_or-drop i s 0 0) ∙ ap (λ (l : List ℕ). get_or l 0 0) h.bytes, here-right (x ∷ []) u post h)

  half_here : (i n : ℕ) (post : List ℕ) → n < 65536 → Here s i (little 2 n) post → le16 s i ≡ n
  half_here i n post l h =
      let a = byte-here i (n % 256) ((n / 256) % 256 ∷ []) post h in
      let b = byte-here (i + 1) ((n / 256) % 256) [] post a.1 in
      omega (arith, a.0, b.0)

  -- ---- entries, names, labels

  zeros-here : (u post : List ℕ) (a : ℕ) → Here s a u post → zeros_from s a (length u) ≡ met_of (nonzero a u) (a + length u)
  unfolding zeros_from nonzero met_of
  zeros-here [] post a h = met_at [] (omega arith)
  zeros-here (x ∷ u) post a h =
      let b = byte-here a x u post h in
      rw b.0 (by_bool (eqb x 0) (λ e. rw e (zeros-here u post (a + 1) b.1 ∙ met_at (nonzero (a + 1) u) (omega arith))) (λ e. rw e))

  entries-here : (es : List Entry) (post : List ℕ) (a : ℕ) → TimesLegal entry es → Here s a (times_print entry es) post
      → entries_from s a (length es) ≡ met_of (each_from entry in_entry a es) (a + length (times_print entry es))
  unfolding each_from in_entry met_of
  entries-here [] post a lg h = entries_none s a ∙ met_at [] (omega arith)
  entries-here (e ∷ es) post a lg h =
      let l = entry-lawful all_tests D e lg.0 in
      let p = entry-print all_tests D e in
      let h1 = here-left (entry.print e) (times_print entry es) post h in
      let h2 = here-right e.head e.skipped (times_print entry es ++ post) (rw p at h1) in
      let h3 : Here s (a + 11) e.skipped (times_print entry es ++ post) = rw l.eleven at h2 in
      let z = zeros-here e.skipped (times_print entry es ++ post) (a + 11) h3 in
      let n : length (entry.print e) ≡ 11 + length e.skipped = omega (arith, ap length p, length-append e.head e.skipped, l.eleven) in
      let k : a + 11 + length e.skipped ≡ a + length (entry.print e) = omega arith in
      entries-suc s a (length es)
      ∙ ap (λ (m : Met). onwards m λ q. entries_from s q (length es)) (ap (zeros_from s (a + 11)) (sym l.others) ∙ z ∙ met_at (nonzero (a + 11) e.skipped) k)
      ∙ (met-after (nonzero (a + 11) e.skipped) _ _ _ (λ q. entries_from s q (length es))
      (entries-here es post (a + length (entry.print e)) lg.1 (here-right (entry.print e) (times_print entry es) post h)
      ∙ met_at (each_from entry in_entry (a + length (entry.print e)) es) (omega (arith, length-append (entry.print e) (times_print entry es)))))

  -- a name's length byte, and how many bytes it has
  name-here : (n : Name) (post : List ℕ) (a : ℕ) → name.legal n → Here s a (name.print n) post → (get_or s a 0 ≡ length n.text) × (length (name.print n) ≡ length n.text + 2)
  name-here n post a lg h =
      let p = name-print all_tests n in
      let b = byte-here a (length n.text % 256) (n.text ++ (0 ∷ [])) post (rw p at h) in
      (omega (arith, b.0, (name-lawful all_tests n lg).short), omega (arith, ap length p, length-append n.text (0 ∷ [])))

  names-here : (ns : List Name) (post : List ℕ) (a : ℕ) → TimesLegal name ns → Here s a (times_print name ns) post → names_from s a (length ns) ≡ a + length (times_print name ns)
  names-here [] post a lg h = names-none s a ∙ omega arith
  names-here (n ∷ ns) post a lg h =
      let b = name-here n (times_print name ns ++ post) a lg.0 (here-left (name.print n) (times_print name ns) post h) in
      let k : a + get_or s a 0 + 2 ≡ a + length (name.print n) = omega (arith, b.0, b.1) in
      names-suc s a (length ns) ∙ ap (λ (m : ℕ). names_from s m (length ns)) k ∙ (names-here ns post (a + length (name.print n)) lg.1 (here-right (name.print n) (times_print name ns) post h) ∙ omega (arith, length-append (name.print n) (times_print name ns)))

  labels-here : (ls : List Label) (post : List ℕ) (a least : ℕ) → TimesLegal label ls → Here s a (times_print label ls) post
      → labels_from s a least (length ls) ≡ met_of (in_labels a least ls) (a + length (times_print label ls))
  unfolding in_labels met_of
  labels-here [] post a least lg h = labels-none s a least ∙ met_at [] (omega arith)
  labels-here (l ∷ ls) post a least lg h =
      let w = label-lawful all_tests l lg.0 in
      let p = label-print all_tests l in
      let h1 : Here s a (little 2 l.code ++ name.print l.name) (times_print label ls ++ post) = rw p at (here-left (label.print l) (times_print label ls) post h) in
      let c = half_here a l.code _ w.0 (here-left (little 2 l.code) (name.print l.name) _ h1) in
      let b = name-here l.name _ (a + 2) w.1 (here-right (little 2 l.code) (name.print l.name) _ h1) in
      let k : a + 4 + get_or s (a + 2) 0 ≡ a + length (label.print l) = omega (arith, b.0, b.1, ap length p, length-append (little 2 l.code) (name.print l.name)) in
      let n : l.code + 1 ≡ suc l.code = omega arith in
      labels-suc s a (length ls) least
      ∙ rw (k, c, n)
      (by_bool (leb least l.code)
      (λ e. rw e (labels-here ls post (a + length (label.print l)) (suc l.code) lg.1 (here-right (label.print l) (times_print label ls) post h)
      ∙ met_at (in_labels (a + length (label.print l)) (suc l.code) ls) (omega (arith, length-append (label.print l) (times_print label ls)))))
      (λ e. rw e))

  -- ---- a section

  -- fields after their count
  fields-here : (kind : ℕ) → eqb kind 2 ≡ false → (f : Fields) → fields.legal f → (post : List ℕ) (p : ℕ) → Here s p (times_print entry f.entries ++ times_print name f.names) post
      → items_from kind s p (length f.entries) ≡ met_of (each_from entry in_entry p f.entries) (p + length (times_print entry f.entries ++ times_print name f.names))
  unfolding items_from
  fields-here kind k f lg post p h =
      let l = fields-lawful all_tests D f lg in
      let es = times_print entry f.entries in
      let ns = times_print name f.names in
      let e = entries-here f.entries (ns ++ post) p l.entries (here-left es ns post h) in
      let n = names-here f.names post (p + length es) l.names (here-right es ns post h) in
      let c : names_from s (p + length es) (length f.entries) ≡ p + length (es ++ ns) = ap (names_from s (p + length es)) (sym l.even) ∙ n ∙ omega (arith, length-append es ns) in
      rw (k, e) (met-after (each_from entry in_entry p f.entries) [] (p + length es) (p + length (es ++ ns)) (λ q. Ok (names_from s q (length f.entries))) (ap Ok c ∙ sym (met-none _)) ∙ ap (λ (ks : List Refusal). met_of ks (p + length (es ++ ns))) (append-nil (each_from entry in_entry p f.entries)))

  -- a section of its own numbers, a name, a count and as many items, in which `found` tells what is untidy among items at a place
  module _ (kind : ℕ) (own : List ℕ) (n : Name) (count : ℕ) (items rest : List ℕ) (found : ℕ → List Refusal) where
    section-here : own_bytes kind ≡ 2 + length own → name.legal n → count < 65536 → 2 + length (contents own n count items ++ rest) < 65536
        → ((post : List ℕ) (p : ℕ) → Here s p items post → items_from kind s p count ≡ met_of (found p) (p + length items))
        → (post : List ℕ) (a : ℕ) → Here s a (in_section (contents own n count items) rest) post
        → section_from kind s a ≡ met_of (found (a + own_bytes kind + length (name.print n) + 2) ++ leftover 120 (a + 2 + length (contents own n count items)) rest) (a + length (in_section (contents own n count items) rest))
    unfolding section_from
    section-here o lg few small met post a h =
        let w = length (contents own n count items ++ rest) in
        let h1 = here-left (little 2 (2 + w)) (contents own n count items ++ rest) post h in
        let len = half_here a (2 + w) ((contents own n count items ++ rest) ++ post) small h1 in
        let hb = here-left (contents own n count items) rest post (here-right (little 2 (2 + w)) (contents own n count items ++ rest) post h) in
        let h2 = here-right own (name.print n ++ (little 2 count ++ items)) (rest ++ post) hb in
        let q : a + 2 + length own ≡ a + own_bytes kind = omega arith in
        let h3 = here-at q h2 in
        let b = name-here n ((little 2 count ++ items) ++ (rest ++ post)) (a + own_bytes kind) lg (here-left (name.print n) (little 2 count ++ items) (rest ++ post) h3) in
        let h4 = here-right (name.print n) (little 2 count ++ items) (rest ++ post) h3 in
        let c : count_at s (a + own_bytes kind) ≡ a + own_bytes kind + length (name.print n) = omega (arith, b.0, b.1) in
        let m = half_here (a + own_bytes kind + length (name.print n)) count (items ++ (rest ++ post)) few (here-left (little 2 count) items (rest ++ post) h4) in
        let i = met (rest ++ post) (a + own_bytes kind + length (name.print n) + 2) (here-right (little 2 count) items (rest ++ post) h4) in
        let lb : length (contents own n count items) ≡ length own + (length (name.print n) + (2 + length items)) = omega (arith, length-append own (name.print n ++ (little 2 count ++ items)), length-append (name.print n) (little 2 count ++ items)) in
        let lr : w ≡ length (contents own n count items) + length rest = length-append (contents own n count items) rest in
        let e : a + own_bytes kind + length (name.print n) + 2 + length items ≡ a + 2 + length (contents own n count items) = omega arith in
        rw (c, m, i, e, len)
        (met-after (found (a + own_bytes kind + length (name.print n) + 2)) (leftover 120 (a + 2 + length (contents own n count items)) rest) (a + 2 + length (contents own n count items)) (a + length (in_section (contents own n count items) rest)) (λ p. closing 120 p (a + (2 + w)))
        (closing-met 120 (a + 2 + length (contents own n count items)) rest (omega arith) ∙ met_at (leftover 120 (a + 2 + length (contents own n count items)) rest) (omega arith)))

    -- the same of a section whose bytes are these
    section-printed : {inside bytes : List ℕ} → inside ≡ contents own n count items → bytes ≡ in_section inside rest
        → own_bytes kind ≡ 2 + length own → name.legal n → count < 65536 → 2 + length (inside ++ rest) < 65536
        → ((post : List ℕ) (p : ℕ) → Here s p items post → items_from kind s p count ≡ met_of (found p) (p + length items))
        → (post : List ℕ) (a : ℕ) → Here s a bytes post
        → section_from kind s a ≡ met_of (found (a + own_bytes kind + length (name.print n) + 2) ++ leftover 120 (a + length bytes - length rest) rest) (a + length bytes)
    section-printed {inside} {bytes} c b o lg few small met post a h =
        let e : bytes ≡ in_section (contents own n count items) rest = b ∙ ap (λ (u : List ℕ). in_section u rest) c in
        let l : a + length bytes - length rest ≡ a + 2 + length (contents own n count items) = omega (arith, ap length e, length-append (contents own n count items) rest) in
        section-here o lg few (rw c at small) met post a (rw e at h)
        ∙ ap₂ (λ (p q : ℕ). met_of (found (a + own_bytes kind + length (name.print n) + 2) ++ leftover 120 p rest) (a + q)) (sym l) (sym (ap length e))

  record_here : (r : RecordL) → record_l.legal r → (post : List ℕ) (a : ℕ) → Here s a (record_l.print r) post → section_from 0 s a ≡ met_of (in_record a r) (a + length (record_l.print r))
  unfolding in_record in_fields own_bytes
  record_here r lg post a h =
      let l = record_lawful all_tests D r lg in
      let f = fields-lawful all_tests D r.fields l.fields in
      let own = little 2 r.rtype ++ (little 2 r.schema ++ (little 2 r.base ++ little 8 r.hash)) in
      let items = times_print entry r.fields.entries ++ times_print name r.fields.names in
      let b = record_body-print all_tests D r ∙ ap (λ (u : List ℕ). little 2 r.rtype ++ (little 2 r.schema ++ (little 2 r.base ++ (little 8 r.hash ++ (name.print r.name ++ u))))) (fields-print all_tests D r.fields) in
      section-printed 0 own r.name (length r.fields.entries) items r.rest (λ p. each_from entry in_entry p r.fields.entries) b (record_bytes all_tests D r) refl l.name f.count l.size
      (fields-here 0 refl r.fields l.fields) post a h

  struct_here : (x : StructL) → struct_l.legal x → (post : List ℕ) (a : ℕ) → Here s a (struct_l.print x) post → section_from 1 s a ≡ met_of (in_struct a x) (a + length (struct_l.print x))
  unfolding in_struct in_fields own_bytes
  struct_here x lg post a h =
      let l = struct_lawful all_tests D x lg in
      let f = fields-lawful all_tests D x.fields l.fields in
      let items = times_print entry x.fields.entries ++ times_print name x.fields.names in
      let b = struct_body-print all_tests D x.size x.name x.fields ∙ ap (λ (u : List ℕ). little 2 x.size ++ (name.print x.name ++ u)) (fields-print all_tests D x.fields) in
      section-printed 1 (little 2 x.size) x.name (length x.fields.entries) items x.rest (λ p. each_from entry in_entry p x.fields.entries) b (struct_bytes all_tests D x) refl l.name f.count l.size
      (fields-here 1 refl x.fields l.fields) post a h

  label_def-here : (d : LabelDef) → label_def.legal d → (post : List ℕ) (a : ℕ) → Here s a (label_def.print d) post → section_from 2 s a ≡ met_of (in_label_def a d) (a + length (label_def.print d))
  unfolding in_label_def own_bytes items_from
  label_def-here d lg post a h =
      let l = label_def-lawful all_tests d lg in
      let e : a + 2 + length (name.print d.name) + 2 ≡ a + 4 + length (name.print d.name) = omega arith in
      section-printed 2 [] d.name (length d.labels) (times_print label d.labels) d.rest (λ p. in_labels p 0 d.labels) (label_body-print all_tests d.name d.labels) (label_def-bytes all_tests d) refl l.name l.count l.size
      (λ post p g. labels-here d.labels post p 0 l.labels g) post a h
      ∙ ap (λ (p : ℕ). met_of (in_labels p 0 d.labels ++ leftover 120 (a + length (label_def.print d) - length d.rest) d.rest) (a + length (label_def.print d))) e

  -- ---- groups

  module _ {A : Type 0} (c : Codec A) (kind : ℕ) (found : ℕ → A → List Refusal)
      (here : (x : A) → c.legal x → (post : List ℕ) (a : ℕ) → Here s a (c.print x) post → section_from kind s a ≡ met_of (found a x) (a + length (c.print x))) where
    sections-here : (xs : List A) → TimesLegal c xs → (post : List ℕ) (a : ℕ) → Here s a (times_print c xs) post → sections_from kind s a (length xs) ≡ met_of (each_from c found a xs) (a + length (times_print c xs))
    unfolding each_from met_of
    sections-here [] lg post a h = sections-none s a kind ∙ met_at [] (omega arith)
    sections-here (x ∷ xs) lg post a h =
        let r = sections-here xs lg.1 post (a + length (c.print x)) (here-right (c.print x) (times_print c xs) post h) in
        sections-suc s a (length xs) kind
        ∙ ap (λ (m : Met). onwards m λ p. sections_from kind s p (length xs)) (here x lg.0 (times_print c xs ++ post) a (here-left (c.print x) (times_print c xs) post h))
        ∙ met-after (found a x) _ _ _ (λ p. sections_from kind s p (length xs))
        (r ∙ met_at (each_from c found (a + length (c.print x)) xs) (omega (arith, length-append (c.print x) (times_print c xs))))

    group_here : (xs : List A) → length xs < 65536 → TimesLegal c xs → (post : List ℕ) (a : ℕ) → Here s a (little 2 (length xs) ++ times_print c xs) post
        → group_from kind s a ≡ met_of (each_from c found (a + 2) xs) (a + 2 + length (times_print c xs))
    unfolding group_from
    group_here xs few lg post a h =
        let n = half_here a (length xs) (times_print c xs ++ post) few (here-left (little 2 (length xs)) (times_print c xs) post h) in
        rw n (sections-here xs lg post (a + 2) (here-right (little 2 (length xs)) (times_print c xs) post h))

-- ---- a layout

-- the walk over the bytes of a layout that has bytes meets the first thing that is untidy in it
pub layout-met : (t : Layout) → LegalLayout all_tests D t → layout_met (print_layout all_tests D t) ≡ met_of (untidy t) (length (print_layout all_tests D t))
unfolding layout_met untidy structs_at labels_at
layout-met t lg =
    let l = layout-lawful all_tests D t lg in
    let rs = times_print record_l t.records in
    let ss = times_print struct_l t.structs in
    let ls = times_print label_def t.labels in
    let gr = little 2 (length t.records) ++ rs in
    let gs = little 2 (length t.structs) ++ ss in
    let gl = little 2 (length t.labels) ++ ls in
    let s = print_layout all_tests D t in
    let b = layout-bytes all_tests D t in
    let h0 : Here s 0 ((little 2 t.version ++ (gr ++ (gs ++ gl))) ++ t.rest) [] = record { inside = omega arith; bytes = b ∙ sym (append-nil _) } in
    let h1 = here-right (little 2 t.version) (gr ++ (gs ++ gl)) (t.rest ++ []) (here-left (little 2 t.version ++ (gr ++ (gs ++ gl))) t.rest [] h0) in
    let h2 = here-right gr (gs ++ gl) (t.rest ++ []) h1 in
    let h3 = here-right gs gl (t.rest ++ []) h2 in
    let p = 4 + length rs in
    let q = p + 2 + length ss in
    let e = q + 2 + length ls in
    let ep : 2 + length gr ≡ p = omega arith in
    let eq : 2 + length gr + length gs ≡ q = omega arith in
    let r1 = group_here record_l 0 in_record record_here t.records l.records-count l.records _ 2 (here-left gr (gs ++ gl) (t.rest ++ []) h1) in
    let r2 = group_here struct_l 1 in_struct struct_here t.structs l.structs-count l.structs _ p (here-at ep (here-left gs gl (t.rest ++ []) h2)) in
    let r3 = group_here label_def 2 in_label_def label_def-here t.labels l.labels-count l.labels _ q (here-at eq h3) in
    let n : length s ≡ e + length t.rest = omega (arith, ap length b, length-append (little 2 t.version ++ (gr ++ (gs ++ gl))) t.rest, length-append gr (gs ++ gl), length-append gs gl) in
    let c = closing-met 123 e t.rest n in
    let k : length s - length t.rest ≡ e = omega arith in
    rw (r1, k)
    (met-after (each_from record_l in_record 4 t.records) _ p _ (λ i. onwards (group_from 1 s i) λ j. onwards (group_from 2 s j) λ m. closing 123 m (length s))
    (rw r2 (met-after (each_from struct_l in_struct (p + 2) t.structs) _ q _ (λ j. onwards (group_from 2 s j) λ m. closing 123 m (length s))
    (rw r3 (met-after (each_from label_def in_label_def (q + 2) t.labels) _ e _ (λ m. closing 123 m (length s)) c)))))

-- ---- the answer

met-told : (ks : List Refusal) (j : ℕ) → met_told (met_of ks j) ≡ first_of ks
unfolding met_of first_of
met-told [] j = refl
met-told (k ∷ ks) j = refl

module _ (sheet : List ℕ) (width : ℕ) (s : List ℕ) where
  -- of an accepted layout: what the walk over its bytes meets
  pub accepted-told : {v n : ℕ} {r : Met} → Bytes s → Ok (accepted v n) ≡ verdict (ruled_of sheet width s) → r ≡ layout_met s → met_told r ≡ tidy_of sheet width s
  unfolding told
  accepted-told bs q e =
      let (t, j, et, _, _) = verdict-ok (ruled_of sheet width s) q in
      let (i, el) = ruled-layout sheet width s t j et in
      let p = layout_parsed s t i bs el in
      rw (e, et) (ap (λ (u : List ℕ). met_told (layout_met u)) (sym p.bytes) ∙ ap met_told (layout-met t p.legal) ∙ met-told (untidy t) _)

  -- of any other: the reader's refusal
  pub refused-told : {k : Refusal} → Err k ≡ verdict (ruled_of sheet width s) → ◌≡◌ {A = Tidy} (Err k) (tidy_of sheet width s)
  unfolding told
  refused-told q = rw (verdict-no (ruled_of sheet width s) q)
