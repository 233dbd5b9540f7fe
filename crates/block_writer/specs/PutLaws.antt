-- What the storing functions store, in the order in which they store it: the prelude, the layout, the rows and the symbology; and that the dataset is there.
-- Assumes nothing.
use Rattle.std.specs.Prelude.{ℕ, zero, suc, ◌+◌, ◌-◌, ◌%◌, ◌≤◌, ◌<◌, ◌≡◌, refl, Bool, cond, ◌&&◌, List, [], ◌∷◌, ◌++◌, length, take, drop, leb}
use Rattle.std.proofs.Common.{arith, sym, subst, ◌∙◌, length-take, leb-true}
use Rattle.std.proofs.Math.Path.{ap₂}
use Rattle.std.proofs.Math.Bool.{true, false}
use Rattle.codec.specs.CaseLaws.{both_true, by_le, by_order}
use Rattle.codec.specs.Codec.{little, is_nil}
use Rattle.codec.specs.Faults.{unless-zero}
use Rattle.prelude.proofs.PrintLaws.{prelude-print}
use Rattle.symbology_format.specs.Symbology.{Symbology}
use Rattle.rows_check.specs.Check.{fault, printed}
use Rattle.rows_check.specs.SectionLaws.{printed-is}
use Rattle.rules.specs.RowRules.{rows_rules}
use Rattle.writer.specs.Write.{Written, Writes}
use Rattle.writer.proofs.RoundTripLaws.{accepts, out_written}
use Rattle.put.specs.Output.{RoomFor, Wrote, Filled, Stored}
use Rattle.put.specs.OutputLaws.{Left, left-start, left_stored, left-rest, lent_length, lent_wrote}
use Rattle.metadata_lengths.specs.Lengths.{lengths}
use Rattle.block_format.specs.Block.{header, layout_part, symbology_part}
use Rattle.block_format.specs.BlockFaults.{symbology_bytes}
use Rattle.block_format.proofs.PrintLaws.{layout-print, no-layout-print, names-print, rest-names-print}
use Rattle.columns_check.specs.Tree.{kind_of, symbol_rows, partial_rows, list_rows, symbology_of}
use Rattle.columns_check.specs.Check.{well_formed, narrow}
use Rattle.columns_check.specs.RowLaws.{Placed, done, mapping, interval, run-kind, lists-le}
use Rattle.columns_check.specs.FitLaws.{Along, formed, all-good}
use Rattle.columns_check.specs.PrintLaws.{printed_row, printed_rows, printed_list_rows, columns-print}
use Rattle.header_bytes.specs.Numbers.{dataset_len, width, layout_version, dataset_start, has}
use Rattle.block_writer.specs.Fields.{dataset_text, options_fit, numbers_fit, dataset_fits, fields_fit, fields_narrow}
use Rattle.header_bytes.specs.Header.{header_of, header_bytes}
use Rattle.header_bytes.specs.HeaderLaws.{header_stored}
use Rattle.block_writer.specs.Tree.{layout_tree, prelude_bytes}
use Rattle.block_writer.specs.Plan.{LayoutReady, RowReady, RowsReady, NamesReady}
use Rattle.block_writer.specs.PlanLaws.{layout-bytes-length, layout-fault-is}
use Rattle.block_writer.specs.declared.Plan.{Plan}

-- ---- the prelude

-- the magic, the version, the length
pub prelude-bytes : (version len : ℕ) → version < 256 → prelude_bytes version len ≡ (68 ∷ 66 ∷ 78 ∷ version ∷ []) ++ little 4 len
unfolding prelude_bytes
prelude-bytes version len h = let e : version % 256 ≡ version = omega arith in prelude-print (record { version = version; len = len }) ∙ rw e

-- ---- the dataset

-- the dataset can be found
pub dataset-found : (version : ℕ) (fs text : List ℕ) → fields_fit version fs text ≡ true → dataset_fits fs text ≡ true
unfolding fields_fit
dataset-found version fs text e = (both_true (numbers_fit version fs) (dataset_fits fs text) (both_true (options_fit fs) (numbers_fit version fs && dataset_fits fs text) e).1).1

-- the dataset is no wider than its field
pub dataset-narrow : (version : ℕ) (fs text : List ℕ) → fields_narrow version fs ≡ true → length (dataset_text fs text) ≤ (lengths version).dataset_cstr_len
unfolding fields_narrow dataset_text
dataset-narrow version fs text e =
    let h = leb-true (dataset_len fs) (lengths version).dataset_cstr_len (both_true (leb (dataset_len fs) (lengths version).dataset_cstr_len) _ e).0 in
    omega (arith, length-take (dataset_len fs) (drop (dataset_start fs) text))

-- so that the header is stored whole
pub header-whole : (version : ℕ) (fs text : List ℕ) {at : ℕ} {dataset o p : List ℕ} {a : ℕ} → fields_narrow version fs ≡ true → dataset ≡ dataset_text fs text
    → Stored at (header_bytes version fs dataset) o p a → Stored at ((header (lengths version)).codec.print (header_of version fs (dataset_text fs text))) o p a
header-whole version fs text e d s = header_stored version fs (dataset_text fs text) (dataset-narrow version fs text e) (rw d at s)

-- ---- the layout

module _ (sheet fs rows text : List ℕ) (len : ℕ) where
  -- its length, and where there is one its rows' bytes
  pub layout-bytes : (has : Bool) → LayoutReady has sheet fs rows text len
      → (layout_part has sheet (width fs)).codec.print (layout_tree has fs rows text) ≡ little 4 len ++ cond has (printed (layout_version fs) rows text) []
  unfolding layout_tree
  layout-bytes true r = layout-print sheet (width fs) _ ∙ ap₂ (λ k u. little 4 k ++ u) (sym r.len) (sym (printed-is (layout_version fs) rows text))
  layout-bytes false r = no-layout-print sheet (width fs) _ ∙ ap₂ (λ k u. little 4 k ++ u) (sym r.len) (rw (unless-zero (is_nil rows) 25 (omega arith) (sym (layout-fault-is false sheet fs rows text) ∙ r.ruled)))

  -- its rows keep the rules
  pub layout-ruled : LayoutReady true sheet fs rows text len → rows_rules sheet (width fs) rows text ≡ 0
  layout-ruled r = sym (layout-fault-is true sheet fs rows text) ∙ r.ruled

-- what the layout's writer leaves of a part that is long enough
layout-filled : (sheet : List ℕ) (w version : ℕ) (rows text : List ℕ) {out out' : List ℕ} {r : Written} → fault true rows text ≡ 0 → rows_rules sheet w rows text ≡ 0 → length (printed version rows text) ≤ length out
    → Writes sheet w version rows text out out' r → Filled (printed version rows text) out out' (length (printed version rows text))
layout-filled sheet w version rows text {out} f g h ws = record {
  room = h;
  count = refl;
  bytes = ws.leaves ∙ rw (accepts sheet w version rows text (length out) f g h) (out_written _ (printed version rows text) out);
}

-- what is left is left within the output
pub left-inside : {at : ℕ} {bs₀ o₀ : List ℕ} {a : ℕ} {bs o : List ℕ} → Left at bs₀ o₀ a bs o → a + length bs ≤ length o
left-inside l = omega (arith, l.room, l.ends, l.long)

module _ {sheet fs rows text : List ℕ} {len : ℕ} {at : ℕ} {o p : List ℕ} {a : ℕ} (r : LayoutReady true sheet fs rows text len)
    (h : RoomFor at ((layout_part true sheet (width fs)).codec.print (layout_tree true fs rows text)) o) (s : Stored at (little 4 len) o p a) where
  -- its length is stored: its bytes are left
  layout-left : Left at ((layout_part true sheet (width fs)).codec.print (layout_tree true fs rows text)) o a (printed (layout_version fs) rows text) p
  layout-left = left_stored (left-start h) _ (layout-bytes sheet fs rows text len true r) s

  -- there are as many as are given
  layout-count : len ≡ length (printed (layout_version fs) rows text)
  layout-count = r.len ∙ layout-bytes-length true (layout_version fs) fs rows text

  -- they end within the output
  pub layout-end : a + len ≤ length p
  layout-end = omega (arith, left-inside layout-left, layout-count)

  -- and are written into the part that is lent for them
  pub layout-wrote : {q : List ℕ} {w : Written} → Writes sheet (width fs) (layout_version fs) rows text (take (length p - a) (drop a p)) q w
      → Wrote at ((layout_part true sheet (width fs)).codec.print (layout_tree true fs rows text)) o (take a p ++ (q ++ drop (length p - a) (drop a p))) (a + len)
  layout-wrote ws =
      let room : length (printed (layout_version fs) rows text) ≤ length (take (length p - a) (drop a p)) = omega (arith, left-inside layout-left, lent_length a p) in
      left-rest layout-left (rw layout-count (lent_wrote a p (omega (arith, layout-end)) (layout-filled sheet (width fs) (layout_version fs) rows text r.whole (layout-ruled sheet fs rows text len r) room ws)))

-- ---- rows

module _ (width : ℕ) (t text : List ℕ) where
  -- none is left
  pub rows_none : (r n : ℕ) → n ≤ 0 → printed_rows width t text r n ≡ []
  rows_none r zero h = refl
  rows_none r (suc n) h = absurd (omega arith)

  -- the next, then the others
  pub rows_next : (r n : ℕ) → 0 < n → printed_rows width t text r n ≡ printed_row width t text r ++ printed_rows width t text (r + 1) (n - 1)
  rows_next r zero h = absurd (omega arith)
  rows_next r (suc n) h = let e : suc n - 1 ≡ n = omega arith in rw e

  -- the next can be stored, and so can the others
  pub next-ready : (r n : ℕ) → 0 < n → RowsReady width t text r n → RowReady width t text r × RowsReady width t text (r + 1) (n - 1)
  next-ready r zero h s = absurd (omega arith)
  next-ready r (suc n) h s =
      let e : suc n - 1 ≡ n = omega arith in
      (s.rows r (omega arith) (omega arith), record { few = omega (arith, s.few); rows = λ j a b. s.rows j (omega arith) (omega arith) })

-- ---- all rows

-- what holds of a row and of those after it holds of all
along_next : {P : ℕ → Type 0} {r : ℕ} (n : ℕ) → P r → Along P (r + 1) n → Along P r (suc n)
along_next {P} {r} n h t j a b = by_order r j (λ lt. t j (omega arith) (omega arith)) (λ eq. subst P eq h) (λ gt. absurd (omega arith))

-- the mappings' rows have kind 3 or 4
placed-kind : {t : List ℕ} {r n owner due : ℕ} → Placed t r n owner due → Along (λ j. kind_of t j ≤ 4) r n
placed-kind done = λ j a b. absurd (omega arith)
placed-kind (mapping {n = n} k p) = along_next n (omega arith) (placed-kind p)
placed-kind (interval {n = n} k o p) = along_next n (omega arith) (placed-kind p)

-- those of the lists 0 to 2
lists-kind : (t : List ℕ) (n j : ℕ) → j < list_rows t n → kind_of t j ≤ 4
lists-kind t n j h =
    let s = symbol_rows t n in
    let p = symbol_rows t n + partial_rows t n in
    by_le s j
    (λ a. by_le p j (λ b. omega (arith, run-kind 2 t p (n - p) j b h)) (λ b. omega (arith, run-kind 1 t s (n - s) j a b)))
    (λ a. omega (arith, run-kind 0 t 0 n j (omega arith) (omega arith)))

-- any of rows that are well formed and narrow can be stored
pub rows-ready : (width : ℕ) (t text : List ℕ) (n : ℕ) → well_formed t n text ≡ true → narrow width t n ≡ true → (r m : ℕ) → r + m ≤ n → RowsReady width t text r m
rows-ready width t text n e f r m h = record {
  few = omega (arith, (formed t n text e).small);
  rows = λ j a b. record {
    good = all-good width t text n e f r m h j a b;
    kind = by_le (list_rows t n) j (λ le. placed-kind (formed t n text e).mappings j le (omega arith)) (λ lt. lists-kind t n j lt);
  };
}

-- ---- the symbology

-- where there is a layout its length comes first
names-part : (has : Bool) (width : ℕ) (t : Symbology) → (symbology_part has width).codec.print t ≡ cond has (little 4 (length (symbology_bytes width t))) [] ++ symbology_bytes width t
names-part true width t = names-print width t
names-part false width t = rest-names-print width t

module _ {width : ℕ} {t : List ℕ} {n : ℕ} {text : List ℕ} {size : ℕ} {p : Plan} (s : NamesReady width t n text size p) where
  -- its length, where there is a layout; the lists, the count of the mappings, and the mappings' rows
  pub symbology-bytes : (has : Bool) → let lists = p.symbols + p.partial + p.not_found in
      (symbology_part has width).codec.print (symbology_of width t n text)
      ≡ cond has (little 4 size) [] ++ (printed_list_rows width t text 0 p.symbols ++ (printed_list_rows width t text p.symbols p.partial
      ++ (printed_list_rows width t text (p.symbols + p.partial) p.not_found ++ (little 4 p.mappings ++ printed_rows width t text lists (n - lists)))))
  symbology-bytes has =
      rw (s.counts.symbols, s.counts.partial, s.counts.not_found, s.counts.mappings)
      (names-part has width (symbology_of width t n text) ∙ ap₂ (λ k u. cond has (little 4 k) [] ++ u) (sym s.names) (columns-print width t n text s.formed))

  -- the rows of the lists are rows, and four bytes hold their count
  pub lists-few : (p.symbols + p.partial + p.not_found ≤ n) × (n ≤ 4294967295)
  lists-few = (rw (s.counts.symbols, s.counts.partial, s.counts.not_found) (lists-le t n), (formed t n text s.formed).small)

  -- any of them can be stored
  pub names-ready : (r m : ℕ) → r + m ≤ n → RowsReady width t text r m
  names-ready r m h = rows-ready width t text n s.formed s.narrow r m h
