-- What the block writer accepts, and that it reads back: the prelude, the fields, the rows, starts apart, and the names that were given.
-- Assumes nothing.
use Rattle.block_format.specs.declared.ReadError.{ReadError}
use Rattle.std.specs.Prelude.{ℕ, zero, suc, ◌+◌, ◌/◌, ◌≤◌, Bool, ◌&&◌, take, drop, ltb, Some, None, Option, Result, Ok}
use native.Mathlib.Omega.{arith}
use Rattle.std.proofs.Math.Path.{◌≡◌, refl, sym, ap}
use Rattle.std.proofs.Common.{◌∙◌, subst, take_at}
use Rattle.std.proofs.Math.Bool.{true, false, cond}
use mathlib.Core.List.{List, [], ◌∷◌, ◌++◌, map, append_assoc}
use Rattle.std.proofs.Math.ListN.{length, length-append}
use Rattle.std.proofs.lemmas.List.{length-map, take-append-le}
use Rattle.std.proofs.Math.Seq.{take-append_seam, drop_at}
use Rattle.std.proofs.Math.Dec.{leb, eqb}
use borrow.Author.Tests.{leb-true, ltb-true, eqb-true, le-leb, eq-eqb, ne_eqb}
use Rattle.codec.specs.Codec.{ok, refusal, little, is_nil, Bytes, fault_of}
use Rattle.codec.specs.CaseLaws.{no_true, both_true, by_bool}
use Rattle.codec.proofs.Laws.{length-little}
use Rattle.codec.specs.Faults as Faults
use Rattle.codec.specs.Faults.{first-zero, unless-zero}
use Rattle.text.specs.Trim.{trimmed_len}
use Rattle.prelude.specs.Prelude.{is_version, prelude_of}
use Rattle.prelude.proofs.PrintLaws.{prelude-print, prelude-back}
use Rattle.prelude.specs.declared.Stage.TheVariants.{Whole}
use Rattle.table.specs.Columns.{columns}
use Rattle.table.proofs.TableLaws.{flat-length}
use Rattle.wire.specs.Reader.{all_tests}
use Rattle.layout.specs.Layout.{Layout, print_layout, LegalLayout, EachName}
use Rattle.layout.specs.LayoutOf.{D}
use Rattle.layout.specs.Rows as L
use Rattle.layout.specs.RowLaws.{no_start}
use Rattle.layout.specs.TextLaws.{row_text}
use Rattle.layout.specs.PlaceLaws.{rows-parts}
use Rattle.layout.specs.ReadLaws.{rows-nine}
use Rattle.rows_check.specs.Tree.{rows_in, tree_of}
use Rattle.rows_check.specs.Check.{fault}
use Rattle.rows_check.specs.CheckLaws.{Formed}
use Rattle.rows_check.specs.LegalLaws.{sound}
use Rattle.rows_check.specs.TreeLaws.{tree-rows, tree-flat, tree-version}
use Rattle.rows_check.specs.NameLaws.{tree-each}
use Rattle.symbology_format.proofs.PrintLaws.{name_in, no_start6}
use Rattle.symbology_format.proofs.NameLaws.{Stands}
use Rattle.metadata_lengths.specs.Lengths.{lengths}
use Rattle.block_format.specs.Block.{Block, header, layout_part, symbology_part, block_of}
use Rattle.block_format.specs.BlockFaults.{LegalPart, layout_bytes, symbology_bytes, header_fault, layout_fault, header-length, block-told}
use Rattle.block_format.specs.LengthsLaws.{lengths-layout}
use Rattle.block_format.proofs.PrintLaws.{header-print, layout-print, no-layout-print, Suits, located, sixes-still, fields-are, nines-still, fields-still, sixes-texts, nines-texts}
use Rattle.block_format.specs.Fields.{unless, limit_of, end_of, ts_out_of, fields_of}
use Rattle.block_format.specs.Read.{sixes, nines, over, Promise}
use Rattle.block_format.proofs.ReadLaws.{held}
use Rattle.metadata_lengths.specs.declared.MetadataLengths.{MetadataLengths}
use Rattle.block_format.specs.declared.Fields.{Fields}
use Rattle.columns_check.specs.Tree.{filled, symbology_of}
use Rattle.columns_check.specs.FilledLaws.{filled-length, filled-trimmed, filled-back}
use Rattle.columns_check.specs.BackLaws.{rows_at, texts_at, rows-length, rows_back, rows-count, texts-back}
use Rattle.writer.specs.Write.{out_after}
use Rattle.writer.proofs.RoundTripLaws.{out_written}
use Rattle.std.specs.Prelude.{Ok, Err}
use Rattle.header_bytes.specs.Numbers.{dataset_len, schema, start, end, limit, stype_in, stype_out, ts_out, width, layout_version, has}
use Rattle.block_writer.specs.Fields.{dataset_text, option_fits}
use Rattle.header_bytes.specs.Header.{header_of}
use Rattle.header_bytes.specs.HeaderLaws.{header_is}
use Rattle.block_writer.specs.Tree.{layout_tree, block_tree, block_bytes, prelude_bytes}
use Rattle.block_writer.specs.Write.{formed, slim, start_bytes, write_fault, write_block, WritesBlock}
use Rattle.block_writer.specs.Plan.{Ready}
use Rattle.block_writer.specs.PlanLaws.{Small, Fit, layout-fault-is, ready-fit, ready-formed, ready-dataset, ready-width, dataset-long, header-sized, layout-sized, block_shaped, block-bytes-length, block-bytes-are, write_fault-is}

-- ---- what is accepted, and with which length

module _ (sheet : List ℕ) (version : ℕ) (fs t : List ℕ) (n : ℕ) (rows text : List ℕ) where
  -- no number, and enough room for the bytes, which are k
  pub record Accepts (room k : ℕ) : Type 0 where
    pub none : write_fault sheet version fs t n rows text ≡ 0
    pub count : k ≡ length (start_bytes sheet version fs t n rows text)
    pub fits : k ≤ room

  -- what no number refuses is written where there is room
  pub accepts : (room : ℕ) → write_fault sheet version fs t n rows text ≡ 0 → length (start_bytes sheet version fs t n rows text) ≤ room
      → write_block sheet version fs t n rows text room ≡ Ok (length (start_bytes sheet version fs t n rows text))
  unfolding write_block
  accepts room e h = rw (e, le-leb (length (start_bytes sheet version fs t n rows text)) room h)

  -- and nothing else
  pub accepted : (room k : ℕ) → write_block sheet version fs t n rows text room ≡ Ok k → Accepts room k
  unfolding write_block
  accepted room k e = go (eqb 0 (write_fault sheet version fs t n rows text)) refl (leb (length (start_bytes sheet version fs t n rows text)) room) refl e
    where
      go : (b : Bool) → eqb 0 (write_fault sheet version fs t n rows text) ≡ b → (c : Bool) → leb (length (start_bytes sheet version fs t n rows text)) room ≡ c
          → cond b (cond c (Ok (length (start_bytes sheet version fs t n rows text))) (Err (refusal 112 0))) (Err (refusal (write_fault sheet version fs t n rows text) 0)) ≡ Ok k
          → Accepts room k
      go true y true z e =
          let m : k ≡ length (start_bytes sheet version fs t n rows text) = cc in
          let l = leb-true (length (start_bytes sheet version fs t n rows text)) room z in
          record { none = sym (eqb-true 0 (write_fault sheet version fs t n rows text) y); count = m; fits = omega arith }
      go true y false z e = let o : ◌≡◌ {A = ℕ} 0 1 = cc in absurd (omega arith)
      go false y c z e = let o : ◌≡◌ {A = ℕ} 0 1 = cc in absurd (omega arith)

  -- ---- no number

  -- neither 11 nor 110 nor 111, nor 90 to 95, nor one of the reader's
  pub record Passed : Type 0 where
    pub ready : Ready version fs t n text
    pub whole : fault true rows text ≡ 0
    pub read : fault_of (block_of version sheet (block_bytes sheet version fs t n rows text)) ≡ 0

  pub passed : write_fault sheet version fs t n rows text ≡ 0 → Passed
  unfolding write_fault
  passed e =
      let (a, e1) = first-zero (Faults.unless (is_version version) 11) _ e in
      let (b, e2) = first-zero (Faults.unless (formed version fs t n text) 110) _ e1 in
      let (c, e3) = first-zero (Faults.unless (slim version fs t n) 111) _ e2 in
      let (d, f) = first-zero (fault true rows text) _ e3 in
      record {
        ready = record {
          known = unless-zero (is_version version) 11 (omega arith) a;
          formed = unless-zero (formed version fs t n text) 110 (omega arith) b;
          slim = unless-zero (slim version fs t n) 111 (omega arith) c;
        };
        whole = d;
        read = f;
      }

-- ---- the fields

-- a value that is there, or none
abbrev pub given : Bool → ℕ → Option ℕ
given here x = cond here (Some x) None

-- the fields that the numbers say, as a reader gives them, with the counts of rows
unfoldable pub fields_given : List ℕ → ℕ → ℕ → Fields
fields_given fs m n = record {
  dataset_len = dataset_len fs;
  schema = given (has 1 fs) (schema fs);
  start = start fs;
  end = given (has 2 fs) (end fs);
  limit = given (has 4 fs) (limit fs);
  stype_in = given (has 8 fs) (stype_in fs);
  stype_out = stype_out fs;
  ts_out = eqb (ts_out fs) 1;
  symbol_cstr_len = width fs;
  layout_version = layout_version fs;
  symbology_rows = m;
  layout_rows = n;
}

-- a value that may be absent is read as it was given: schema and stype_in, which are less than what is stored for none
coded_back : (none : ℕ) (here : Bool) (x : ℕ) → option_fits here (ltb x none) x ≡ true → unless (eqb (cond here x none) none) (cond here x none) ≡ given here x
coded_back none true x e = rw (ne_eqb x none (λ z. omega (arith, ltb-true x none e))) refl
coded_back none false x e = rw (eq-eqb none none refl) refl

-- end
end_back : (here : Bool) (x : ℕ) → option_fits here (ltb 0 x && ltb x 18446744073709551615) x ≡ true → end_of (cond here x 18446744073709551615) ≡ given here x
end_back true x e =
    let (a, b) = both_true (ltb 0 x) (ltb x 18446744073709551615) e in
    rw (ne_eqb x 0 (λ z. omega (arith, ltb-true 0 x a)), ne_eqb x 18446744073709551615 (λ z. omega (arith, ltb-true x 18446744073709551615 b))) refl
end_back false x e = refl

-- limit, which is stored as it is
limit-back : (here : Bool) (x : ℕ) → option_fits here (ltb 0 x) x ≡ true → limit_of x ≡ given here x
limit-back true x e = rw (ne_eqb x 0 (λ z. omega (arith, ltb-true 0 x e))) refl
limit-back false x e = rw e refl

-- ts_out is 0 or 1
flag_back : (x : ℕ) → x ≤ 1 → ts_out_of x ≡ eqb x 1
flag_back zero h = refl
flag_back (suc zero) h = refl
flag_back (suc (suc x)) h = absurd (omega arith)

-- the dataset without the NULs that fill it
dataset-back : {version : ℕ} {fs text : List ℕ} → Fit version fs text → (w : ℕ) → trimmed_len (filled w (dataset_text fs text)) ≡ dataset_len fs
dataset-back {fs = fs} {text = text} f w = filled-trimmed w (dataset_text fs text) ∙ f.dataset_ends ∙ dataset-long f

-- ---- the layout's rows

is_empty : {A : Type 0} (xs : List A) → length xs ≡ 0 → xs ≡ []
is_empty [] h = refl
is_empty (x ∷ xs) h = absurd (omega arith)

nil_empty : (xs : List ℕ) → is_nil xs ≡ true → xs ≡ []
nil_empty [] e = refl
nil_empty (x ∷ xs) e = absurd (no_true (sym e))

-- no numbers are no rows
no_rows : (rows text : List ℕ) → is_nil rows ≡ true → Formed rows text → rows_in rows ≡ []
no_rows rows text e w =
    let t = tree_of 0 rows text in
    is_empty (rows_in rows) (omega (arith, flat-length 9 (L.rows t) (rows-nine t), ap length (tree-flat rows text 0 w), ap length (tree-rows rows text 0 w), ap length (nil_empty rows e)))

-- a version without a layout has one without items
layout-suits : (has : Bool) (fs rows text : List ℕ) → Suits has (layout_tree has fs rows text)
unfolding layout_tree
layout-suits true fs rows text e = absurd (no_true e)
layout-suits false fs rows text e = refl

-- what the reader would refuse by 25 is not there
no_stray : (has : Bool) (sheet fs rows text : List ℕ) → layout_fault has sheet (width fs) (layout_tree has fs rows text) ≡ 0 → has ≡ false → is_nil rows ≡ true
no_stray true sheet fs rows text e h = absurd (no_true h)
no_stray false sheet fs rows text e h = unless-zero (is_nil rows) 25 (omega arith) (sym (layout-fault-is false sheet fs rows text) ∙ e)

-- the layout's rows are those given
layout-rows : (has : Bool) (fs rows text : List ℕ) → fault true rows text ≡ 0 → (has ≡ false → is_nil rows ≡ true) → L.rows (layout_tree has fs rows text) ≡ rows_in rows
unfolding layout_tree
layout-rows true fs rows text whole h = tree-rows rows text (layout_version fs) (sound rows text whole).formed
layout-rows false fs rows text whole h = let e = h refl in rw e (rows-parts (0, ([], ([], []))) ∙ sym (no_rows rows text e (sound rows text whole).formed))

-- and its version
layout-version : (has : Bool) (fs rows text : List ℕ) → (has ≡ false → layout_version fs ≡ 0) → (layout_tree has fs rows text).version ≡ layout_version fs
unfolding layout_tree
layout-version true fs rows text h = tree-version (layout_version fs) rows text
layout-version false fs rows text h = sym (h refl)

-- ---- the bytes of the prelude and of the layout

-- a prelude has eight
pub prelude-length : (version len : ℕ) → length (prelude_bytes version len) ≡ 8
unfolding prelude_bytes
prelude-length version len = ap length (prelude-print (record { version = version; len = len }))

-- a layout: its length and its bytes
part-print : (has : Bool) (sheet : List ℕ) (w : ℕ) (l : Layout) → (layout_part has sheet w).codec.print l ≡ little 4 (length (layout_bytes has l)) ++ layout_bytes has l
part-print true sheet w l = layout-print sheet w l
part-print false sheet w l = no-layout-print sheet w l

-- in a version that has one: its bytes, that it is legal, and that its names stand in the text
bytes_with_lem : (has : Bool) (l : Layout) → has ≡ true → layout_bytes has l ≡ print_layout all_tests D l
bytes_with_lem true l e = refl
bytes_with_lem false l e = absurd (no_true (sym e))

legal_with : (has : Bool) (l : Layout) → has ≡ true → LegalPart has l → LegalLayout all_tests D l
legal_with true l e z = z
legal_with false l e z = absurd (no_true (sym e))

each_with : (has : Bool) (fs rows text : List ℕ) → has ≡ true → Formed rows text → EachName all_tests D (Stands text) (layout_tree has fs rows text)
unfolding layout_tree
each_with true fs rows text e w = tree-each rows text (layout_version fs) w
each_with false fs rows text e w = absurd (no_true (sym e))

-- ---- the round trip

module _ (sheet : List ℕ) (version : ℕ) (fs t : List ℕ) (n : ℕ) (rows text : List ℕ) where
  -- the block that is written, with the places that it has in its bytes
  abbrev pub written_block : Block
  written_block = located sheet (lengths version) (block_tree version fs t n rows text)

  -- its bytes, and those of its layout
  abbrev bytes : List ℕ
  bytes = block_bytes sheet version fs t n rows text

  abbrev pub written_layout : List ℕ
  written_layout = layout_bytes (lengths version).has_layout (layout_tree (lengths version).has_layout fs rows text)

  pub record ReadsBack : Type 0 where
    -- the prelude says the version and the block's length
    pub prelude : prelude_of (start_bytes sheet version fs t n rows text) ≡ Ok (Whole version (length bytes))
    -- the block's bytes are read as the block, and none follow it
    pub accepted : block_of version sheet bytes ≡ ok (written_block, []) (length bytes)
    -- the fields and the rows are those given, starts apart
    pub same_fields : fields_of (lengths version) written_block ≡ fields_given fs n (length (rows_in rows))
    pub same_sixes : map no_start6 (sixes written_block) ≡ map no_start6 (rows_at t 0 n)
    pub same_nines : map no_start (nines written_block) ≡ map no_start (rows_in rows)
    -- below version 4 there are no layout rows
    pub no_nines : (lengths version).has_layout ≡ false → rows ≡ []
    -- the dataset stands first, and each symbology row names its text
    pub dataset : take (dataset_len fs) bytes ≡ dataset_text fs text
    pub symbols : map (name_in bytes) (sixes written_block) ≡ texts_at t text 0 n
    -- the layout stands at place 104, and in it each layout row names its text
    pub layout : take (length written_layout) (drop 104 bytes) ≡ written_layout
    pub names : map (row_text written_layout) (nines written_block) ≡ map (row_text text) (rows_in rows)

  module _ (small : Small fs) (octets : Bytes text) (none : write_fault sheet version fs t n rows text ≡ 0) where
    abbrev p : Passed sheet version fs t n rows text
    p = passed sheet version fs t n rows text none

    abbrev f : Fit version fs text
    f = ready-fit p.ready

    abbrev v : MetadataLengths
    v = lengths version

    abbrev tree : Block
    tree = block_tree version fs t n rows text

    abbrev layout_of : Layout
    layout_of = layout_tree v.has_layout fs rows text

    -- ---- no number of the parts

    parts-fine : (length bytes ≤ 4294967295) × (layout_fault v.has_layout sheet (width fs) layout_of ≡ 0)
    parts-fine =
        let (a, b) = first-zero (Faults.unless (leb (length bytes) 4294967295) 13) _ (sym (write_fault-is sheet version fs t n rows text p.ready small octets p.whole) ∙ none) in
        let (_, c) = first-zero (header_fault (header_of version fs (dataset_text fs text))) _ b in
        (leb-true (length bytes) 4294967295 (unless-zero _ 13 (omega arith) a), (first-zero _ _ c).0)

    -- below version 4 there are no rows, and the version is 0
    stray : v.has_layout ≡ false → is_nil rows ≡ true
    stray = no_stray v.has_layout sheet fs rows text parts-fine.1

    plain : v.has_layout ≡ false → layout_version fs ≡ 0
    plain e =
        let g : eqb version 4 ≡ false = sym (lengths-layout version) ∙ e in
        let h : layout_version fs ≤ 0 = rw g at f.layout_version_fits in
        omega arith

    -- ---- what is read

    read : block_of version sheet bytes ≡ ok (written_block, []) (length bytes)
    unfolding block_bytes
    read = let told = block-told version sheet tree (block_shaped p.ready rows small octets p.whole) in told.fine (sym told.number ∙ p.read)

    prelude-read : prelude_of (start_bytes sheet version fs t n rows text) ≡ Ok (Whole version (length bytes))
    unfolding start_bytes prelude_bytes
    prelude-read = prelude-back (record { version = version; len = length bytes }) bytes p.ready.known (omega (arith, block-bytes-length p.ready sheet rows small octets)) parts-fine.0

    lines : nines tree ≡ rows_in rows
    unfolding block_tree
    lines = layout-rows v.has_layout fs rows text p.whole stray

    suits : Suits v.has_layout tree.layout
    unfolding block_tree
    suits = layout-suits v.has_layout fs rows text

    fields-same : fields_of v tree ≡ fields_given fs n (length (rows_in rows))
    unfolding fields_given block_tree
    fields-same =
        fields-are v tree
        ∙ rw (
          lines,
          ready-width p.ready,
          header_is version fs (dataset_text fs text),
          dataset-back f v.dataset_cstr_len,
          coded_back 65535 (has 1 fs) (schema fs) f.schema_fits,
          end_back (has 2 fs) (end fs) f.end_fits,
          limit-back (has 4 fs) (limit fs) f.limit_fits,
          coded_back 255 (has 8 fs) (stype_in fs) f.stype_in_fits,
          flag_back (ts_out fs) f.ts_out_fits,
          layout-version v.has_layout fs rows text plain,
          rows-count (width fs) t n text (ready-formed p.ready),
        ) refl

    sixes-same : map no_start6 (sixes written_block) ≡ map no_start6 (rows_at t 0 n)
    unfolding block_tree
    sixes-same = sixes-still sheet v tree ∙ rows_back (width fs) t n text (ready-formed p.ready)

    nines-same : map no_start (nines written_block) ≡ map no_start (rows_in rows)
    nines-same = nines-still sheet v tree suits ∙ ap (map no_start) lines

    symbols-same : map (name_in bytes) (sixes written_block) ≡ texts_at t text 0 n
    unfolding block_bytes block_tree
    symbols-same = sixes-texts sheet v tree ∙ texts-back (width fs) t n text (ready-formed p.ready)

    -- ---- where the names stand

    dataset-same : take (dataset_len fs) bytes ≡ dataset_text fs text
    dataset-same =
        let w = v.dataset_cstr_len in
        let d = filled w (dataset_text fs text) in
        let body = (layout_part v.has_layout sheet (width fs)).codec.print layout_of ++ (symbology_part v.has_layout (width fs)).codec.print (symbology_of (width fs) t n text) in
        let h : dataset_len fs ≤ length d = omega (arith, filled-length w (dataset_text fs text) (omega (arith, dataset-long f, ready-dataset p.ready)), ready-dataset p.ready) in
        let H = header_of version fs (dataset_text fs text) in
        let g : H.dataset ≡ d = ap (λ x. x.dataset) (header_is version fs (dataset_text fs text)) in
        let k : dataset_len fs ≤ length H.dataset = omega (arith, ap length g, h) in
        ap (take (dataset_len fs)) (block-bytes-are p.ready sheet rows ∙ ap (λ u. u ++ body) (header-print v H) ∙ append_assoc H.dataset _ body)
        ∙ take-append-le (dataset_len fs) H.dataset _ k
        ∙ ap (take (dataset_len fs)) g
        ∙ subst (λ k. take k d ≡ dataset_text fs text) (dataset-back f w) (filled-back w (dataset_text fs text) f.dataset_ends)

    layout-same : take (length written_layout) (drop 104 bytes) ≡ written_layout
    layout-same =
        let H = (header v).codec.print (header_of version fs (dataset_text fs text)) in
        let N = little 4 (length written_layout) in
        let S = (symbology_part v.has_layout (width fs)).codec.print (symbology_of (width fs) t n text) in
        let e : bytes ≡ (H ++ N) ++ (written_layout ++ S) =
        block-bytes-are p.ready sheet rows
        ∙ ap (λ u. H ++ (u ++ S)) (part-print v.has_layout sheet (width fs) layout_of)
        ∙ ap (λ u. H ++ u) (append_assoc N written_layout S)
        ∙ sym (append_assoc H N (written_layout ++ S)) in
        let h : length (H ++ N) ≡ 104 = omega (arith, length-append H N, header-length version (header_of version fs (dataset_text fs text)) (header-sized p.ready small octets), length-little 4 (length written_layout)) in
        ap (λ u. take (length written_layout) (drop 104 u)) e
        ∙ ap (take (length written_layout)) (drop_at (H ++ N) (written_layout ++ S) 104 h)
        ∙ take-append_seam written_layout S

    -- in version 4 each layout row names its text; below there is none
    names_with : v.has_layout ≡ true → map (row_text written_layout) (nines written_block) ≡ map (row_text text) (rows_in rows)
    unfolding block_tree
    names_with e =
        let has = v.has_layout in
        let same = bytes_with_lem has layout_of e in
        let z = layout-sized p.ready rows octets p.whole in
        ap (λ u. map (row_text u) (nines written_block)) same
        ∙ nines-texts sheet v tree text e (legal_with has layout_of e z.0) (omega (arith, z.1, ap length same)) (each_with has fs rows text e (sound rows text p.whole).formed)
        ∙ ap (map (row_text text)) lines

    names_without : v.has_layout ≡ false → map (row_text written_layout) (nines written_block) ≡ map (row_text text) (rows_in rows)
    names_without e =
        let none = no_rows rows text (stray e) (sound rows text p.whole).formed in
        let empty : nines written_block ≡ [] = is_empty (nines written_block) (sym (length-map (nines written_block) no_start) ∙ ap length (nines-same ∙ ap (map no_start) none)) in
        rw (none, empty) refl

    back : ReadsBack
    back = record {
      prelude = prelude-read;
      accepted = read;
      same_fields = fields-still sheet v tree suits ∙ fields-same;
      same_sixes = sixes-same;
      same_nines = nines-same;
      no_nines = λ e. nil_empty rows (stray e);
      dataset = dataset-same;
      symbols = symbols-same;
      layout = layout-same;
      names = by_bool v.has_layout names_with names_without;
    }

  module _ (room k : ℕ) (small : Small fs) (octets : Bytes text) (e : write_block sheet version fs t n rows text room ≡ Ok k) where
    -- THE ROUND TRIP: what is written reads back
    pub reads-back : ReadsBack
    reads-back = back small octets (accepted sheet version fs t n rows text room k e).none

    -- the length written is the sum of the parts' lengths, in every version
    pub written_length : k ≡ 8 + (104 + length written_layout + (cond (lengths version).has_layout 4 0 + length (symbology_bytes (width fs) (symbology_of (width fs) t n text))))
    unfolding start_bytes
    written_length =
        let a = accepted sheet version fs t n rows text room k e in
        let r = (passed sheet version fs t n rows text a.none).ready in
        omega (arith, a.count, length-append (prelude_bytes version (length bytes)) bytes, prelude-length version (length bytes), block-bytes-length r sheet rows small octets)

  -- ---- over the promises of write_block and read_block

  -- what reading the written block into the tables s and l answers and leaves: the fields given, and the rows of the block
  pub record ReadBack (s l s' l' : List ℕ) (r : Result Fields ReadError) : Type 0 where
    pub answer : r ≡ Ok (fields_given fs n (length (rows_in rows)))
    pub symbology : s' ≡ columns 6 (sixes written_block) s
    pub layout : l' ≡ over (nines written_block) 9 l

  module _ (out out' : List ℕ) (k : ℕ) (w : WritesBlock sheet version fs t n rows text out out' (Ok k)) where
    pub length-is : k ≡ length (start_bytes sheet version fs t n rows text)
    length-is = (accepted sheet version fs t n rows text (length out) k (sym w.is)).count

    leaves-is : out' ≡ start_bytes sheet version fs t n rows text ++ drop k out
    leaves-is =
        let s = start_bytes sheet version fs t n rows text in
        w.leaves ∙ ap (λ r. out_after r s out) (sym w.is) ∙ out_written k s out ∙ ap (λ m. s ++ drop m out) (sym length-is)

    -- the first k bytes of the output are prelude and block, and the rest of it is as it was
    pub written_is : take k out' ≡ start_bytes sheet version fs t n rows text
    written_is = ap (take k) leaves-is ∙ take_at (start_bytes sheet version fs t n rows text) (drop k out) k (sym length-is)

    pub rest-is : drop k out' ≡ drop k out
    rest-is = ap (drop k) leaves-is ∙ drop_at (start_bytes sheet version fs t n rows text) (drop k out) k (sym length-is)

    -- after eight bytes stands the block
    pub block-is : drop 8 (take k out') ≡ bytes
    unfolding start_bytes
    block-is = ap (drop 8) written_is ∙ drop_at (prelude_bytes version (length bytes)) bytes 8 (prelude-length version (length bytes))

    -- what is written reads back into tables that hold the rows
    pub round_trip_read : Small fs → Bytes text → (s l s' l' : List ℕ) (r : Result Fields ReadError) → n ≤ length s / 6 → length (rows_in rows) ≤ length l / 9
        → Promise version (drop 8 (take k out')) sheet s l r s' l' → ReadBack s l s' l' r
    round_trip_read small octets s l s' l' r a b p =
        let z = reads-back (length out) k small octets (sym w.is) in
        let m : length (sixes written_block) ≡ n = sym (length-map (sixes written_block) no_start6) ∙ ap length z.same_sixes ∙ length-map (rows_at t 0 n) no_start6 ∙ rows-length t 0 n in
        let o : length (nines written_block) ≡ length (rows_in rows) = sym (length-map (nines written_block) no_start) ∙ ap length z.same_nines ∙ length-map (rows_in rows) no_start in
        let h = held (written_block, []) (length bytes) (subst (λ u. Promise version u sheet s l r s' l') block-is p) z.accepted (omega arith) (omega arith) in
        record { answer = h.answer ∙ ap Ok z.same_fields; symbology = h.symbology; layout = h.layout }
