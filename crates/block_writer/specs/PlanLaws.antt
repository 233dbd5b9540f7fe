-- What is known of a start before it is written, where neither 11 nor 110 nor 111 comes: its sizes, how long its parts are, its bytes, and the number that
-- refuses it. Assumes nothing.
use Rattle.std.specs.Prelude.{ℕ, zero, suc, ◌+◌, ◌/◌, ◌^◌, ◌≤◌, ◌<◌, ◌≡◌, refl, Bool, ◌&&◌, cond, List, ◌++◌, length, drop, get_or, leb, ltb, eqb}
use Rattle.std.proofs.Common.{arith, sym, ◌∙◌, subst}
use Rattle.std.proofs.Math.Path.{ap}
use Rattle.std.proofs.Math.Bool.{true, false}
use Rattle.std.proofs.Math.ListN.{length-drop}
use Rattle.std.proofs.lemmas.List.{length-replicate}
use Rattle.std.proofs.Math.Seq.{length-take-le}
use borrow.Author.Tests.{leb-true, ltb-true, eqb-true, ne_eqb}
use Rattle.codec.specs.Codec.{little, is_nil, Bytes}
use Rattle.codec.specs.CaseLaws.{both_true, by_bool}
use Rattle.codec.proofs.Laws.{length-little, bytes_take, bytes_drop}
use Rattle.codec.specs.Faults.{unless, first}
use Rattle.text.specs.Utf8.{utf8}
use Rattle.text.specs.Trim.{trimmed_len}
use Rattle.padded.specs.Padded.{nul_padded}
use Rattle.dates.specs.Date.{is_date}
use Rattle.prelude.specs.Prelude.{is_version}
use Rattle.wire.specs.Reader.{all_tests}
use Rattle.layout.specs.LayoutOf.{D}
use Rattle.layout.specs.LayoutLaws.{layout-octets}
use Rattle.rows_check.specs.Tree.{tree_of}
use Rattle.rows_check.specs.Check.{fault, printed}
use Rattle.rows_check.specs.LegalLaws.{sound, tree-legal}
use Rattle.rows_check.specs.SectionLaws.{printed-is, printed-length, layout_is}
use Rattle.rules.specs.RowRules.{rows_rules}
use Rattle.rules.specs.RowRuleLaws.{rows_rules_lem}
use Rattle.symbology_format.specs.SymbologyFaults.{symbology_fault}
use Rattle.metadata_lengths.specs.Lengths.{lengths}
use Rattle.block_format.specs.Block.{width_of, header, layout_part, symbology_part}
use Rattle.block_format.specs.BlockFaults.{SizedHeader, LegalPart, layout_bytes, SizedLayout, symbology_bytes, ShapedBlock, header_fault, layout_fault, block-length, block-told}
use Rattle.block_format.specs.LengthsLaws.{lengths-width, whole-fault}
use Rattle.block_format.proofs.PrintLaws.{block-print}
use Rattle.columns_check.specs.Tree.{symbology_of}
use Rattle.columns_check.specs.Check.{well_formed, narrow}
use Rattle.columns_check.specs.FilledLaws.{nuls-bytes, filled-length, filled-bytes}
use Rattle.columns_check.specs.SizedLaws.{symbology-sized}
use Rattle.header_bytes.specs.Numbers.{dataset_len, schema, end, limit, stype_in, stype_out, ts_out, width, layout_version, present, dataset_start, has}
use Rattle.block_writer.specs.Fields.{dataset_text, option_fits, options_fit, numbers_fit, dataset_fits, fields_fit, fields_narrow}
use Rattle.header_bytes.specs.Header.{header_of}
use Rattle.header_bytes.specs.HeaderLaws.{header_is}
use Rattle.block_writer.specs.Tree.{layout_tree, block_tree, block_bytes, prelude_bytes}
use Rattle.block_writer.specs.Write.{formed, slim, start_bytes, write_fault}
use Rattle.block_writer.specs.Plan.{Ready}

-- eight bytes hold every number of the fields
abbrev pub Small : List ℕ → Type 0
Small fs = (i : ℕ) → get_or fs i 0 < 18446744073709551616

-- ---- what the fields say

-- those that fit
pub record Fit (version : ℕ) (fs text : List ℕ) : Type 0 where
  pub schema_fits : option_fits (has 1 fs) (ltb (schema fs) 65535) (schema fs) ≡ true
  pub end_fits : option_fits (has 2 fs) (ltb 0 (end fs) && ltb (end fs) 18446744073709551615) (end fs) ≡ true
  pub limit_fits : option_fits (has 4 fs) (ltb 0 (limit fs)) (limit fs) ≡ true
  pub stype_in_fits : option_fits (has 8 fs) (ltb (stype_in fs) 255) (stype_in fs) ≡ true
  pub stype_out_fits : stype_out fs ≤ 255
  pub ts_out_fits : ts_out fs ≤ 1
  pub width_fits : cond (eqb version 1) true (leb (width fs) 65535) ≡ true
  pub layout_version_fits : layout_version fs ≤ cond (eqb version 4) 65535 0
  pub dataset_inside : dataset_start fs + dataset_len fs ≤ length text
  pub dataset_ends : trimmed_len (dataset_text fs text) ≡ length (dataset_text fs text)

pub fields_fit_lem : (version : ℕ) (fs text : List ℕ) → fields_fit version fs text ≡ true → Fit version fs text
unfolding fields_fit options_fit numbers_fit dataset_fits
fields_fit_lem version fs text e =
    let (options, e1) = both_true (options_fit fs) _ e in
    let (numbers, dataset) = both_true (numbers_fit version fs) _ e1 in
    let (_, o1) = both_true (leb (present fs) 15) _ options in
    let (a, o2) = both_true (option_fits (has 1 fs) (ltb (schema fs) 65535) (schema fs)) _ o1 in
    let (b, o3) = both_true (option_fits (has 2 fs) (ltb 0 (end fs) && ltb (end fs) 18446744073709551615) (end fs)) _ o2 in
    let (c, d) = both_true (option_fits (has 4 fs) (ltb 0 (limit fs)) (limit fs)) _ o3 in
    let (f, n1) = both_true (leb (stype_out fs) 255) _ numbers in
    let (g, n2) = both_true (leb (ts_out fs) 1) _ n1 in
    let (h, i) = both_true (cond (eqb version 1) true (leb (width fs) 65535)) _ n2 in
    let (j, k) = both_true (leb (dataset_start fs + dataset_len fs) (length text)) _ dataset in
    record {
      schema_fits = a;
      end_fits = b;
      limit_fits = c;
      stype_in_fits = d;
      stype_out_fits = leb-true (stype_out fs) 255 f;
      ts_out_fits = leb-true (ts_out fs) 1 g;
      width_fits = h;
      layout_version_fits = leb-true (layout_version fs) (cond (eqb version 4) 65535 0) i;
      dataset_inside = leb-true (dataset_start fs + dataset_len fs) (length text) j;
      dataset_ends = eqb-true (trimmed_len (dataset_text fs text)) (length (dataset_text fs text)) k;
    }

module _ {version : ℕ} {fs t : List ℕ} {n : ℕ} {text : List ℕ} (r : Ready version fs t n text) where
  pub ready-fit : Fit version fs text
  unfolding formed
  ready-fit = fields_fit_lem version fs text (both_true (fields_fit version fs text) _ r.formed).0

  pub ready-formed : well_formed t n text ≡ true
  unfolding formed
  ready-formed = (both_true (fields_fit version fs text) _ r.formed).1

  pub ready-narrow : narrow (width fs) t n ≡ true
  unfolding slim
  ready-narrow = (both_true (fields_narrow version fs) _ r.slim).1

  -- the dataset is no wider than its field
  pub ready-dataset : dataset_len fs ≤ (lengths version).dataset_cstr_len
  unfolding slim fields_narrow
  ready-dataset = leb-true _ _ (both_true (leb (dataset_len fs) (lengths version).dataset_cstr_len) _ (both_true (fields_narrow version fs) _ r.slim).0).0

  -- version 1 has the width 22
  ready-width_1 : cond (eqb version 1) (eqb (width fs) 22) true ≡ true
  unfolding slim fields_narrow
  ready-width_1 = (both_true (leb (dataset_len fs) (lengths version).dataset_cstr_len) _ (both_true (fields_narrow version fs) _ r.slim).0).1

  -- the reader finds the width that is given
  pub ready-width : width_of (lengths version) (header_of version fs (dataset_text fs text)) ≡ width fs
  ready-width =
      rw (header_is version fs (dataset_text fs text), lengths-width version)
      (by_bool (eqb version 1) (λ e. rw e (sym (eqb-true (width fs) 22 (rw e at ready-width_1)))) (λ e. rw e refl))

  -- two bytes hold it
  pub ready_narrow16 : width fs < 65536
  ready_narrow16 =
      by_bool (eqb version 1) (λ e. let f : width fs ≡ 22 = eqb-true (width fs) 22 (rw e at ready-width_1) in omega arith)
      (λ e. let f : width fs ≤ 65535 = leb-true (width fs) 65535 (rw e at ready-fit.width_fits) in omega arith)

  -- and the layout's version
  pub ready_version16 : layout_version fs < 65536
  ready_version16 =
      let h = ready-fit.layout_version_fits in
      by_bool (eqb version 4) (λ e. let f : layout_version fs ≤ 65535 = rw e at h in omega arith) (λ e. let f : layout_version fs ≤ 0 = rw e at h in omega arith)

-- ---- sizes

-- what is stored where a value may be absent
stored_below : (here : Bool) (x absent bound : ℕ) → (here ≡ true → x < bound) → absent < bound → cond here x absent < bound
stored_below true x absent bound f h = f refl
stored_below false x absent bound f h = h

-- the digits of a number are bytes
little-bytes : (w n : ℕ) → Bytes (little w n)
little-bytes zero n k = omega arith
little-bytes (suc w) n zero = omega arith
little-bytes (suc w) n (suc k) = little-bytes w (n / 256) k

module _ {version : ℕ} {fs text : List ℕ} (f : Fit version fs text) where
  -- the dataset's text is as long as it is said to be
  pub dataset-long : length (dataset_text fs text) ≡ dataset_len fs
  unfolding dataset_text
  dataset-long = length-take-le (dataset_len fs) (drop (dataset_start fs) text) (omega (arith, length-drop (dataset_start fs) text, f.dataset_inside))

  dataset-bytes : Bytes text → Bytes (dataset_text fs text)
  unfolding dataset_text
  dataset-bytes b = bytes_take (dataset_len fs) (drop (dataset_start fs) text) (bytes_drop (dataset_start fs) text b)

  -- a width fits its place; version 1 has none
  width-sized : cond (eqb version 1) 0 (width fs) < 256 ^ (lengths version).symbol_cstr_len_len
  width-sized =
      rw (lengths-width version)
      (by_bool (eqb version 1) (λ e. rw e (omega arith)) (λ e. let h : width fs ≤ 65535 = leb-true (width fs) 65535 (rw e at f.width_fits) in rw e (omega arith)))

module _ {version : ℕ} {fs t : List ℕ} {n : ℕ} {text : List ℕ} (r : Ready version fs t n text) where
  -- every field of the header fits its place
  pub header-sized : Small fs → Bytes text → SizedHeader (lengths version) (header_of version fs (dataset_text fs text))
  header-sized small bytes =
      let v = lengths version in
      let f = ready-fit r in
      let d = dataset_text fs text in
      rw (header_is version fs d) (record {
        dataset = (filled-length v.dataset_cstr_len d (omega (arith, dataset-long f, ready-dataset r)), filled-bytes v.dataset_cstr_len d (dataset-bytes f bytes));
        schema = stored_below (has 1 fs) (schema fs) 65535 (256 ^ 2) (λ e. omega (arith, ltb-true (schema fs) 65535 (rw e at f.schema_fits))) (omega arith);
        start = omega (arith, small 2);
        end = stored_below (has 2 fs) (end fs) 18446744073709551615 (256 ^ 8) (λ e. omega (arith, small 3)) (omega arith);
        limit = omega (arith, small 4);
        count = (length-little v.record_count_len 18446744073709551615, little-bytes v.record_count_len 18446744073709551615);
        stype_in = stored_below (has 8 fs) (stype_in fs) 255 256 (λ e. omega (arith, ltb-true (stype_in fs) 255 (rw e at f.stype_in_fits))) (omega arith);
        stype_out = omega (arith, f.stype_out_fits);
        ts_out = omega (arith, f.ts_out_fits);
        width = width-sized f;
        reserved = (length-replicate v.reserved_len 0, nuls-bytes v.reserved_len);
      })

-- ---- the layout

-- how many bytes it has, whichever its version is
pub layout-bytes-length : (has : Bool) (v : ℕ) (fs rows text : List ℕ)
    → length (layout_bytes has (layout_tree has fs rows text)) ≡ cond has (length (printed v rows text)) (cond (is_nil rows) 0 (length (printed v rows text)))
unfolding layout_tree
layout-bytes-length true v fs rows text =
    ap length (sym (printed-is (layout_version fs) rows text)) ∙ printed-length rows text (layout_version fs) ∙ sym (printed-length rows text v)
layout-bytes-length false v fs rows text = by_bool (is_nil rows) (λ e. rw e refl) (λ e. rw e (sym (printed-length rows text v)))

-- what the reader would refuse it for; a printed layout is not empty
pub layout-fault-is : (has : Bool) (sheet fs rows text : List ℕ)
    → layout_fault has sheet (width fs) (layout_tree has fs rows text) ≡ cond has (rows_rules sheet (width fs) rows text) (unless (is_nil rows) 25)
unfolding layout_tree
layout-fault-is true sheet fs rows text = sym (rows_rules_lem sheet (width fs) (layout_version fs) rows text)
layout-fault-is false sheet fs rows text = by_bool (is_nil rows) (λ e. rw e refl) (λ e. rw (e, layout_is 0 rows text) refl)

-- rows that nothing refuses stand for a legal layout, whose length four bytes hold
module _ (rows text : List ℕ) (bytes : Bytes text) (whole : fault true rows text ≡ 0) where
  printed-bytes : Bytes (printed 0 rows text)
  printed-bytes = subst Bytes (sym (printed-is 0 rows text)) (layout-octets all_tests D (tree_of 0 rows text) (tree-legal rows text bytes (sound rows text whole) 0 (omega arith)))

  part-legal : (has : Bool) (fs : List ℕ) → layout_version fs < 65536 → LegalPart has (layout_tree has fs rows text)
  unfolding layout_tree
  part-legal true fs h = tree-legal rows text bytes (sound rows text whole) (layout_version fs) h
  part-legal false fs h = by_bool (is_nil rows) (λ e. rw e (λ k. omega arith)) (λ e. rw e printed-bytes)

  part-short : (has : Bool) (fs : List ℕ) → length (layout_bytes has (layout_tree has fs rows text)) < 256 ^ 4
  part-short has fs = rw (layout-bytes-length has 0 fs rows text) (go has (is_nil rows))
    where
      go : (a b : Bool) → cond a (length (printed 0 rows text)) (cond b 0 (length (printed 0 rows text))) < 256 ^ 4
      go true b = omega (arith, (sound rows text whole).within)
      go false true = omega arith
      go false false = omega (arith, (sound rows text whole).within)

module _ {version : ℕ} {fs t : List ℕ} {n : ℕ} {text : List ℕ} (r : Ready version fs t n text) where
  pub layout-sized : (rows : List ℕ) → Bytes text → fault true rows text ≡ 0 → SizedLayout (lengths version).has_layout (layout_tree (lengths version).has_layout fs rows text)
  layout-sized rows bytes whole =
      let has = (lengths version).has_layout in
      (part-legal rows text bytes whole has fs (ready_version16 r), part-short rows text bytes whole has fs)

  -- ---- the block

  pub block_shaped : (rows : List ℕ) → Small fs → Bytes text → fault true rows text ≡ 0 → ShapedBlock (lengths version) (block_tree version fs t n rows text)
  unfolding block_tree
  block_shaped rows small bytes whole = record {
    header = header-sized r small bytes;
    layout = layout-sized rows bytes whole;
    symbology = rw (ready-width r) (symbology-sized (width fs) t n text bytes (ready-formed r) (ready-narrow r));
  }

  -- the header's 100, 4 and the layout's, with a layout 4 more for the symbology's length, the symbology's
  pub block-bytes-length : (sheet rows : List ℕ) → Small fs → Bytes text → let has = (lengths version).has_layout in
      length (block_bytes sheet version fs t n rows text)
      ≡ 104 + length (layout_bytes has (layout_tree has fs rows text)) + (cond has 4 0 + length (symbology_bytes (width fs) (symbology_of (width fs) t n text)))
  unfolding block_bytes block_tree
  block-bytes-length sheet rows small bytes =
      let e = block-length version sheet (block_tree version fs t n rows text) (header-sized r small bytes) in
      omega (arith, rw (ready-width r) at e)

  -- its parts, one after the other
  pub block-bytes-are : (sheet rows : List ℕ) → let has = (lengths version).has_layout in
      block_bytes sheet version fs t n rows text
      ≡ (header (lengths version)).codec.print (header_of version fs (dataset_text fs text))
      ++ ((layout_part has sheet (width fs)).codec.print (layout_tree has fs rows text)
      ++ (symbology_part has (width fs)).codec.print (symbology_of (width fs) t n text))
  unfolding block_bytes block_tree
  block-bytes-are sheet rows = rw (ready-width r) at (block-print sheet (lengths version) (block_tree version fs t n rows text))

  -- and the prelude before them
  pub start-bytes-is : (sheet rows : List ℕ) → let has = (lengths version).has_layout in
      start_bytes sheet version fs t n rows text
      ≡ prelude_bytes version (length (block_bytes sheet version fs t n rows text))
      ++ ((header (lengths version)).codec.print (header_of version fs (dataset_text fs text))
      ++ ((layout_part has sheet (width fs)).codec.print (layout_tree has fs rows text)
      ++ (symbology_part has (width fs)).codec.print (symbology_of (width fs) t n text)))
  unfolding start_bytes
  start-bytes-is sheet rows = ap (λ u. prelude_bytes version (length (block_bytes sheet version fs t n rows text)) ++ u) (block-bytes-are sheet rows)

-- ---- the number that refuses to write

module _ (sheet : List ℕ) (version : ℕ) (fs t : List ℕ) (n : ℕ) (rows text : List ℕ) where
  -- 11
  pub write_fault-version : is_version version ≡ false → write_fault sheet version fs t n rows text ≡ 11
  unfolding write_fault
  write_fault-version e = rw e

  -- 110
  pub write_fault_malformed : is_version version ≡ true → formed version fs t n text ≡ false → write_fault sheet version fs t n rows text ≡ 110
  unfolding write_fault
  write_fault_malformed e f = rw (e, f)

  -- 111
  pub write_fault-wide : is_version version ≡ true → formed version fs t n text ≡ true → slim version fs t n ≡ false → write_fault sheet version fs t n rows text ≡ 111
  unfolding write_fault
  write_fault-wide e f g = rw (e, f, g)

  module _ (r : Ready version fs t n text) where
    -- 90 to 95
    pub write_fault-rows : (fault true rows text ≡ 0 → ⊥) → write_fault sheet version fs t n rows text ≡ fault true rows text
    unfolding write_fault
    write_fault-rows f = rw (r.known, r.formed, r.slim, ne_eqb (fault true rows text) 0 f)

    -- 13, then what the reader finds in the header, the layout and the symbology
    pub write_fault-is : Small fs → Bytes text → fault true rows text ≡ 0 → let has = (lengths version).has_layout in
        write_fault sheet version fs t n rows text
        ≡ first (unless (leb (length (block_bytes sheet version fs t n rows text)) 4294967295) 13)
        (first (header_fault (header_of version fs (dataset_text fs text)))
        (first (layout_fault has sheet (width fs) (layout_tree has fs rows text)) (symbology_fault utf8 nul_padded is_date (width fs) (symbology_of (width fs) t n text))))
    unfolding write_fault block_bytes block_tree
    write_fault-is small bytes whole =
        let b = block_tree version fs t n rows text in
        let e = (block-told version sheet b (block_shaped r rows small bytes whole)).number ∙ whole-fault version sheet b in
        rw (r.known, r.formed, r.slim, whole) (rw (r.known, ready-width r) at e)
