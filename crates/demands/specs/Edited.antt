-- An edited version 4 block is read to the same fields and rows, each start moved by what was put in before it.
-- Assumes nothing.
use Rattle.std.specs.Prelude.{ℕ, ◌+◌, ◌-◌, ◌≤◌, ◌≡◌}
use Rattle.std.proofs.Common.{zero-le, add-zero, arith, ◌∙◌, length-append, drop-drop}
use Rattle.std.proofs.Math.Nat.{zero-add}
use Rattle.std.proofs.Math.Path.{refl, sym, ap, ap₂, subst}
use Rattle.std.proofs.Math.Bool.{true}
use mathlib.Core.List.{List, [], ◌++◌, map, append-nil, append_assoc}
use Rattle.std.proofs.Math.ListN.{length, take, drop}
use Rattle.std.proofs.Math.Seq.{take_at, drop_at, take-append_seam}
use Rattle.codec.specs.Codec.{ok, Bytes, Codec, value, raw, skip, little, num, named, checked, judged, boxed, full, ◌then◌, ◌on◌}
use Rattle.codec.proofs.Laws.{Law, Here, Whole, whole_back, left-part, part-take, length-little, value-little}
use Rattle.codec.specs.Edits.{Marked, kept, ◌and◌, bytes_of, Edit, put}
use Rattle.codec.proofs.EditLaws.{Inside, inside, put_all, put-kept, edits-kept, edits-then, edits-on, edits-named, edits-judged, edits-asks, edits-apart}
use Rattle.text.specs.Utf8.{utf8}
use Rattle.wire.specs.Reader.{all_tests}
use Rattle.padded.specs.Padded.{nul_padded}
use Rattle.dates.specs.Date.{is_date}
use Rattle.layout.specs.LayoutOf.{D}
use Rattle.layout.specs.Layout.{parts, to_layout, from_layout, print_layout, locate_layout, bare_layout, LegalLayout}
use Rattle.layout.specs.LayoutLaws.{parse-print, layout-octets}
use Rattle.layout.specs.TextLaws.{row_text, texts, texts-bare, row-texts}
use Rattle.layout.specs.Rows.{rows}
use Rattle.symbology_format.proofs.NameLaws.{Stands}
use Rattle.symbology_format.specs.Symbology.{Symbology, symbology}
use Rattle.symbology_format.specs.SymbologyRows.{symbology_rows}
use Rattle.table.specs.EachLaws.{Each, RowInside}
use Rattle.layout.specs.SpanLaws.{read-lies}
use Rattle.block_format.proofs.SpanLaws.{block-whole}
use Rattle.metadata_lengths.specs.Lengths.{v4, lengths}
use Rattle.block_format.specs.Block.{Header, Block, header, width_of, layout_part, symbology_part, block, block_of}
use Rattle.block_format.specs.Read.{sixes, nines}
use Rattle.demands.specs.LayoutRows.{move_row, rows_move}
use Rattle.demands.specs.SymbologyRows.{Shift, symbology_shift, symbology_texts, symbology-texts}

-- the same bytes at the same place are the same value
pub same_bytes : {A : Type 0} (c : Codec A) → Law c → (p : ℕ) (x y : A) → c.legal x → c.legal y → c.print x ≡ c.print y → c.locate p x ≡ c.locate p y
same_bytes c lc p x y lx ly e =
    let hx : Here (c.print x) 0 (c.print x) [] = record { inside = zero-le; bytes = sym (append-nil (c.print x)) } in
    let hy : Here (c.print x) 0 (c.print y) [] = record { inside = zero-le; bytes = e ∙ sym (append-nil (c.print y)) } in
    let a = lc.reads p (c.print x) 0 x [] lx hx in
    let b = lc.reads p (c.print x) 0 y [] ly hy in
    let q : c.locate (p + 0) x ≡ c.locate (p + 0) y = cc in
    ap (λ n. c.locate n x) (sym (add-zero p)) ∙ q ∙ ap (λ n. c.locate n y) (add-zero p)

-- 100 bytes to which nothing is added, then what may grow, then bytes that are kept: what is put in is put into the second
before-is : (a a' b b' m : Marked) (u : List ℕ) (e1 : Edit a a') (e2 : Edit b b') (e3 : Edit (kept u) m) → length (bytes_of a) ≡ 100 → length (bytes_of a') ≡ 100
    → (n : ℕ) → put (Edit.pair a a' (b and kept u) (b' and m) e1 (Edit.pair b b' (kept u) m e2 e3)) (100 + n) ≡ put e2 n
before-is a a' b b' m u e1 e2 e3 h h' n =
    let z : 100 + n - length (bytes_of a) ≡ n = omega arith in
    omega (arith, put_all e1 (100 + n) (omega arith), ap (put e2) z, put-kept u m e3 (100 + n - length (bytes_of a) - length (bytes_of b)))

-- the header has 100 bytes
pub header-length : (h : Header) → (header v4).codec.legal h → length ((header v4).codec.print h) ≡ 100
unfolding header named ◌then◌ checked raw num skip
header-length h lg =
    simp length-append (omega (arith, lg.0.0.0, lg.1.1.1.1.1.0.0, lg.1.1.1.1.1.1.1.1.1.1.0))

module _ (sheet : List ℕ) where
  abbrev pub B4 : Codec Block
  B4 = (block sheet v4).codec

  -- the parts of a legal block
  abbrev pub width : Block → ℕ
  width x = width_of v4 x.header

  pub header-legal : (x : Block) → B4.legal x → (header v4).codec.legal x.header
  unfolding block named ◌on◌ ◌then◌
  header-legal x lg = lg.0

  pub layout-legal : (x : Block) → B4.legal x → (parts all_tests D).codec.legal (from_layout x.layout).0
  unfolding block named ◌on◌ ◌then◌ layout_part judged boxed
  layout-legal x lg = lg.1.0.0.0

  pub symbology-legal : (x : Block) → B4.legal x → (symbology utf8 nul_padded is_date (width x)).codec.legal x.symbology
  unfolding block named ◌on◌ ◌then◌ symbology_part full boxed
  symbology-legal x lg = lg.1.1.0

  -- what the bare block keeps of them
  pub header-bare : (x y : Block) → B4.bare y ≡ B4.bare x → (header v4).codec.bare y.header ≡ (header v4).codec.bare x.header
  unfolding block named ◌on◌ ◌then◌
  header-bare x y e = ap (λ b. b.header) e

  width-bare : (x y : Block) → B4.bare y ≡ B4.bare x → width y ≡ width x
  unfolding header named ◌then◌ num checked raw
  width-bare x y e = ap (λ h. h.width) (header-bare x y e)

  pub layout-bare : (x y : Block) → B4.bare y ≡ B4.bare x → (parts all_tests D).codec.bare (from_layout y.layout).0 ≡ (parts all_tests D).codec.bare (from_layout x.layout).0
  unfolding block named ◌on◌ ◌then◌ layout_part judged boxed
  layout-bare x y e = ap (λ b. (from_layout b.layout).0) e

  -- the layout of a located block counts from its own first byte, and the symbology from the block's
  pub layout-at : (x : Block) → (B4.locate 0 x).layout ≡ to_layout ((parts all_tests D).codec.locate 0 (from_layout x.layout).0, x.layout.rest)
  unfolding block named ◌on◌ ◌then◌ layout_part judged boxed
  layout-at x = refl

  -- where the symbology's section starts
  abbrev pub section : Block → ℕ
  section x = length ((header v4).codec.print x.header) + length ((layout_part true sheet (width x)).codec.print x.layout)

  symbology-at : (x : Block) → (B4.locate 0 x).symbology ≡ (symbology_part true (width x)).codec.locate (section x) x.symbology
  unfolding block named ◌on◌ ◌then◌
  symbology-at x = ap (λ n. (symbology_part true (width x)).codec.locate (n + length ((layout_part true sheet (width x)).codec.print x.layout)) x.symbology) (zero-add (length ((header v4).codec.print x.header)))

  -- its contents come after the four bytes of its length
  contents-at : (w p : ℕ) (t : Symbology) → (symbology_part true w).codec.locate p t ≡ (symbology utf8 nul_padded is_date w).codec.locate (p + 4) t
  unfolding symbology_part full boxed
  contents-at w p t = refl

  pub section-legal : (x : Block) → B4.legal x → (symbology_part true (width x)).codec.legal x.symbology
  unfolding block named ◌on◌ ◌then◌
  section-legal x lg = lg.1.1

  kept_same : (u v : List ℕ) (m : Marked) (e : Edit (kept u) m) → m ≡ kept v → v ≡ u
  kept_same u v m (Edit.keep _) q = let z : kept u ≡ kept v = q in sym (cc)

  -- ---- the parts of an edit

  pub record Parted (x y : Block) (before : ℕ → ℕ) : Type 0 where
    pub layout : Inside ((parts all_tests D).edits.marks (from_layout x.layout).0) ((parts all_tests D).edits.marks (from_layout y.layout).0) 4 x.layout.rest (λ n. before (100 + n))
    pub after : (n : ℕ) → before (section x + n) + section x ≡ section y
    pub symbology : (symbology_part true (width y)).codec.print y.symbology ≡ (symbology_part true (width x)).codec.print x.symbology

  total : (x y : Block) → B4.legal x → B4.legal y → (inner before : ℕ → ℕ) → ((n : ℕ) → before (100 + n) ≡ inner n)
      → {a b : ℕ} → a ≡ length ((layout_part true sheet (width x)).codec.print x.layout) → b ≡ length ((layout_part true sheet (width y)).codec.print y.layout)
      → ((n : ℕ) → a ≤ n → a + inner n ≡ b) → (n : ℕ) → before (section x + n) + section x ≡ section y
  total x y lx ly inner before is l l' all n =
      let L = length ((layout_part true sheet (width x)).codec.print x.layout) in
      let p : section x + n ≡ 100 + (L + n) = omega (arith, header-length x.header (header-legal x lx)) in
      omega (arith, ap before p ∙ is (L + n), all (L + n) (omega arith), l, l', header-length x.header (header-legal x lx), header-length y.header (header-legal y ly))

  pub parted : (x y : Block) → B4.legal x → B4.legal y → (e : Edit ((block sheet v4).edits.marks x) ((block sheet v4).edits.marks y)) → Parted x y (put e)
  unfolding block layout_part symbology_part edits-named edits-on edits-then edits-judged edits-apart edits-kept
  parted x y lx ly (Edit.pair _ _ _ _ e1 (Edit.pair _ _ _ _ e2 e3)) =
      let h : length (bytes_of ((header v4).edits.marks x.header)) ≡ 100 = ap length ((header v4).edits.marked x.header) ∙ header-length x.header (header-legal x lx) in
      let h' : length (bytes_of ((header v4).edits.marks y.header)) ≡ 100 = ap length ((header v4).edits.marked y.header) ∙ header-length y.header (header-legal y ly) in
      let l = ap length ((layout_part true sheet (width x)).edits.marked x.layout) in
      let l' = ap length ((layout_part true sheet (width y)).edits.marked y.layout) in
      let i = inside 4 0 ((parts all_tests D).edits.marks (from_layout x.layout).0) x.layout.rest _ e2 ((parts all_tests D).edits.marks (from_layout y.layout).0) y.layout.rest refl in
      let is = before-is ((header v4).edits.marks x.header) ((header v4).edits.marks y.header) ((layout_part true sheet (width x)).edits.marks x.layout) ((layout_part true sheet (width y)).edits.marks y.layout) _ _ e1 e2 e3 h h' in
      record {
        layout = record { edit = i.edit; like = λ n less. is (4 + n) ∙ i.like n less };
        after = λ n. total x y lx ly (put e2) (put (Edit.pair _ _ _ _ e1 (Edit.pair _ _ _ _ e2 e3))) is l l' (put_all e2) n;
        symbology = kept_same _ _ _ e3 refl;
      }

  -- ---- the rows

  pub nines_move : (x y : Block) (before : ℕ → ℕ) → B4.legal x → B4.bare y ≡ B4.bare x → Parted x y before
      → nines (B4.locate 0 y) ≡ map (move_row (λ n. n + before (104 + n))) (nines (B4.locate 0 x))
  nines_move x y before lx same e =
      let i = e.layout in
      let u = (from_layout x.layout).0 in
      let v = (from_layout y.layout).0 in
      let f : ℕ → ℕ = λ n. n + before (104 + n) in
      let l = ap length ((parts all_tests D).edits.marked u) in
      let b = length-append (bytes_of ((parts all_tests D).edits.marks u)) x.layout.rest in
      let m = (parts all_tests D).edits.moved f 0 0 u v i.edit (layout-legal x lx) (layout-bare x y same) (λ n less.
      let z : 104 + (0 + n) ≡ 100 + (4 + n) = omega arith in
      ap (λ k. k + before (104 + (0 + n))) (zero-add n) ∙ ap (λ k. n + k) (ap before z ∙ i.like n (omega arith)) ∙ sym (zero-add _)) in
      ap rows (layout-at y) ∙ rows_move all_tests D f ((parts all_tests D).codec.locate 0 u) ((parts all_tests D).codec.locate 0 v) x.layout.rest y.layout.rest m ∙ ap (λ t. map (move_row f) (rows t)) (sym (layout-at x))

  -- the symbology of the edited block is the same, with other places
  pub section-moved : (x y : Block) (before : ℕ → ℕ) → B4.legal x → B4.legal y → B4.bare y ≡ B4.bare x → Parted x y before
      → (B4.locate 0 y).symbology ≡ (symbology utf8 nul_padded is_date (width x)).codec.locate (section y + 4) x.symbology
  section-moved x y before lx ly same e =
      let w = width-bare x y same in
      let c : ℕ → Codec Symbology = λ n. (symbology_part true n).codec in
      let ly' : (c (width x)).legal y.symbology = subst (λ n. (c n).legal y.symbology) w (section-legal y ly) in
      let pr : (c (width x)).print y.symbology ≡ (c (width x)).print x.symbology = subst (λ n. (c n).print y.symbology ≡ (c (width x)).print x.symbology) w e.symbology in
      symbology-at y ∙ ap (λ n. (c n).locate (section y) y.symbology) w
      ∙ same_bytes (c (width x)) (symbology_part true (width x)).law (section y) y.symbology x.symbology ly' (section-legal x lx) pr
      ∙ contents-at (width x) (section y) x.symbology

  pub section_stays : (x : Block) → (B4.locate 0 x).symbology ≡ (symbology utf8 nul_padded is_date (width x)).codec.locate (section x + 4) x.symbology
  section_stays x = symbology-at x ∙ contents-at (width x) (section x) x.symbology

  pub sixes_move : (x y : Block) (before : ℕ → ℕ) → B4.legal x → B4.legal y → B4.bare y ≡ B4.bare x → Parted x y before
      → sixes (B4.locate 0 y) ≡ map (move_row (λ n. n + before n)) (sixes (B4.locate 0 x))
  sixes_move x y before lx ly same e =
      let f : ℕ → ℕ = λ n. n + before n in
      let s : Shift f (section x + 4) (section y + 4) = λ n.
      let z : section x + 4 + n ≡ section x + (4 + n) = omega arith in
      omega (arith, ap before z, e.after (4 + n)) in
      ap symbology_rows (section-moved x y before lx ly same e)
      ∙ symbology_shift utf8 nul_padded is_date (width x) f (section x + 4) (section y + 4) x.symbology s
      ∙ ap (λ t. map (move_row f) (symbology_rows t)) (sym (section_stays x))

  -- ---- the names

  -- the layout of a block: its length stands at place 100, its bytes from 104 on
  abbrev pub layout_in : List ℕ → List ℕ
  layout_in b = take (value (take 4 (drop 100 b))) (drop 104 b)

  pub layout-bytes : (x : Block) (r : List ℕ) → B4.legal x → layout_in (B4.print x ++ r) ≡ print_layout all_tests D x.layout
  unfolding block named ◌on◌ ◌then◌ layout_part judged boxed print_layout
  layout-bytes x r lg =
      let H = (header v4).codec.print x.header in
      let P = (parts all_tests D).codec.print (from_layout x.layout).0 ++ x.layout.rest in
      let S = (symbology_part true (width x)).codec.print x.symbology in
      let n = 0 + length P in
      let e : B4.print x ++ r ≡ H ++ (little 4 n ++ (P ++ (S ++ r))) = simp append_assoc in
      let h = header-length x.header lg.0 in
      let d : drop 100 (B4.print x ++ r) ≡ little 4 n ++ (P ++ (S ++ r)) = ap (drop 100) e ∙ drop_at H (little 4 n ++ (P ++ (S ++ r))) 100 h in
      let t : take 4 (drop 100 (B4.print x ++ r)) ≡ little 4 n = ap (take 4) d ∙ take_at (little 4 n) (P ++ (S ++ r)) 4 (length-little 4 n) in
      let d4 : drop 104 (B4.print x ++ r) ≡ P ++ (S ++ r) = sym (drop-drop 4 100 (B4.print x ++ r)) ∙ ap (drop 4) d ∙ drop_at (little 4 n) (P ++ (S ++ r)) 4 (length-little 4 n) in
      let v : value (take 4 (drop 100 (B4.print x ++ r))) ≡ length P = ap value t ∙ value-little 4 n lg.1.0.0.2 ∙ zero-add (length P) in
      ap₂ take v d4 ∙ take-append_seam P (S ++ r)

  pub nines-texts : (x : Block) (r : List ℕ) → B4.legal x → Bytes x.layout.rest → map (row_text (layout_in (B4.print x ++ r))) (nines (B4.locate 0 x)) ≡ texts (bare_layout all_tests D x.layout)
  unfolding LegalLayout locate_layout bare_layout
  nines-texts x r lg bs =
      let t = x.layout in
      let lt : LegalLayout all_tests D t = (layout-legal x lg, bs) in
      ap (λ b. map (row_text b) (nines (B4.locate 0 x))) (layout-bytes x r lg)
      ∙ ap (λ l. map (row_text (print_layout all_tests D t)) (rows l)) (layout-at x)
      ∙ row-texts all_tests D (print_layout all_tests D t) (locate_layout all_tests D t) (length (print_layout all_tests D t)) (layout-octets all_tests D t lt) (parse-print all_tests D t lt)
      ∙ texts-bare all_tests D (locate_layout all_tests D t)
      ∙ ap (λ v. texts (to_layout (v, []))) ((parts all_tests D).law.still 0 (from_layout t).0)

  sixes-each : (x : Block) (r : List ℕ) → (symbology utf8 nul_padded is_date (width x)).codec.each (Stands (B4.print x ++ r)) (B4.locate 0 x).symbology
  unfolding block named ◌on◌ ◌then◌ symbology_part full boxed header num
  sixes-each x r =
      ((block sheet v4).law.spotted (Stands (B4.print x ++ r)) 0 x (λ n u q. rw zero-add (part-take (left-part r q)))).1.1

  pub sixes-texts : (x : Block) (r : List ℕ) → map (row_text (B4.print x ++ r)) (sixes (B4.locate 0 x)) ≡ symbology_texts (B4.locate 0 x).symbology
  sixes-texts x r = symbology-texts utf8 nul_padded is_date (width x) (B4.print x ++ r) (B4.locate 0 x).symbology (sixes-each x r)

  -- ---- the rows' texts lie within the layout

  -- what is left over in the layout is bytes
  pub rest-bytes : (x : Block) → B4.legal x → Bytes x.layout.rest
  unfolding block named ◌on◌ ◌then◌ layout_part judged boxed
  rest-bytes x lg = lg.1.0.0.1

  -- an accepted block is its bytes, legal and with its places
  pub block_back : (b : List ℕ) (z : Block × List ℕ) (k : ℕ) → Bytes b → block_of 4 sheet b ≡ ok z k → Whole B4 (block sheet v4).law 0 b z
  unfolding lengths
  block_back b z k bs e = whole_back B4 (block sheet v4).law 0 b z k bs (block-whole 4 sheet b z k e)

  -- the rows of a legal block's layout lie within it
  located_lie : (x : Block) (r : List ℕ) → B4.legal x → Each (RowInside 10 15 (length (layout_in (B4.print x ++ r)))) (nines (B4.locate 0 x))
  unfolding LegalLayout locate_layout
  located_lie x r lg =
      let t = x.layout in
      let lt : LegalLayout all_tests D t = (layout-legal x lg, rest-bytes x lg) in
      let h = read-lies all_tests D (print_layout all_tests D t) (locate_layout all_tests D t) (length (print_layout all_tests D t)) (layout-octets all_tests D t lt) (parse-print all_tests D t lt) in
      subst (λ (v : List ℕ). Each (RowInside 10 15 (length v)) (nines (B4.locate 0 x))) (sym (layout-bytes x r lg)) (subst (λ l. Each (RowInside 10 15 (length (print_layout all_tests D t))) (rows l)) (sym (layout-at x)) h)

  -- every layout row of an accepted block is of kind 10 to 15, and its text, where it is no field, lies within the layout
  pub nines_lie : (b : List ℕ) (z : Block × List ℕ) (k : ℕ) → Bytes b → block_of 4 sheet b ≡ ok z k → Each (RowInside 10 15 (length (layout_in b))) (nines z.0)
  nines_lie b z k bs e =
      let w = block_back b z k bs e in
      subst (λ (x : Block). Each (RowInside 10 15 (length (layout_in b))) (nines x)) w.located
      (subst (λ (v : List ℕ). Each (RowInside 10 15 (length (layout_in v))) (nines (B4.locate 0 z.0))) (sym w.bytes) (located_lie z.0 z.1 w.legal))
