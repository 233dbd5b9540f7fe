-- The names of rows as the public functions give them, by index: a row of an accepted block or layout whose kind has a text never
-- gives 90, and its name is the row's text.
-- Assumes nothing.
use Rattle.block_format.specs.declared.Fields.{Fields}
use Rattle.block_format.specs.declared.ReadError.{ReadError}
use Rattle.std.specs.Prelude.{ℕ, ◌+◌, ◌*◌, ◌/◌, ◌≤◌, ◌<◌, ◌≡◌, refl, Bool, true, false, not, ◌&&◌, List, [], ◌++◌, map, length, get_or, drop, leb, eqb, Result}
use Rattle.std.proofs.Common.{mul_comm, le-div_iff_mul-le, arith, sym, ap, ap₂, ◌∙◌, subst, append-nil, length-append, eqb-true}
use Rattle.std.proofs.Math.ListN.{get_or-map}
use Rattle.std.proofs.lemmas.List.{length-map}
use Rattle.codec.specs.Codec.{refusal, ok, Bytes}
use Rattle.table.specs.Table.{flat}
use Rattle.table.specs.Columns.{columns, cell, row_cell}
use Rattle.table.proofs.ColumnLaws.{columns-length, cell_row}
use Rattle.table.proofs.TableLaws.{Wide, flat-length}
use Rattle.table.specs.EachLaws.{Each, each_at, row_number, RowInside}
use Rattle.layout.specs.Layout.{Layout}
use Rattle.layout.specs.LayoutOf.{layout_of}
use Rattle.layout.specs.Rows.{rows}
use Rattle.layout.specs.ReadLaws.{rows-nine}
use Rattle.layout.specs.SpanLaws.{layout-lies}
use Rattle.layout.specs.TextLaws.{row_text}
use Rattle.names.specs.Names.{no_text, symbol_text, item_text, span_of, symbology_span, layout_span, part_in, spanned, Spanned}
use Rattle.names.proofs.SpanLaws.{span-part, span_none, part_bytes, part_none, symbol-text, symbol-kinds, item-kinds}
use Rattle.rules.specs.Rules.{ruled_of}
use Rattle.engines.specs.VerdictLaws.{ruled-layout}
use Rattle.rows_check.specs.Tree.{rows_in, tree_of}
use Rattle.rows_check.specs.CheckLaws.{Formed}
use Rattle.rows_check.specs.TreeLaws.{tree-rows, tree-flat}
use Rattle.rows_check.specs.SpanLaws.{rows_in_lie}
use Rattle.block_format.specs.Block.{Block, block_of}
use Rattle.block_format.specs.Read.{sixes, nines, over}
use Rattle.block_format.proofs.ReadLaws.{Held}
use Rattle.block_format.proofs.SpanLaws.{sixes_lie}
use Rattle.demands.specs.LayoutRows.{move_row, move_kind, move_length, move_start}
use Rattle.demands.specs.Edited.{layout_in, nines_lie}

-- kind, start and length of row i
abbrev pub kind_of : List (List ℕ) → ℕ → ℕ
kind_of rs i = get_or (get_or rs i []) 0 0

abbrev pub start_of : List (List ℕ) → ℕ → ℕ
start_of rs i = get_or (get_or rs i []) 1 0

abbrev pub length_of : List (List ℕ) → ℕ → ℕ
length_of rs i = get_or (get_or rs i []) 2 0

-- what asking for the names of the rows rs gives: `span i` is what is told of row i, and b are the bytes that the starts count from
pub record Named (hasText : ℕ → Bool) (b : List ℕ) (span : ℕ → Spanned) (rs : List (List ℕ)) : Type 0 where
  -- a row whose kind has a text gives its start and length, and never 90
  pub part : (i : ℕ) → i < length rs → hasText (kind_of rs i) ≡ true → span i ≡ spanned (start_of rs i) (length_of rs i)
  -- a row whose kind has none is a field, and gives 90
  pub only-fields : (i : ℕ) → i < length rs → hasText (kind_of rs i) ≡ false → (kind_of rs i ≡ 11) × (span i ≡ no_text)
  -- the name's bytes are the row's text
  pub name : (i : ℕ) → i < length rs → part_in b (span i) ≡ row_text b (get_or rs i [])

-- by the public functions, from a table
abbrev pub SymbologyNamed : List ℕ → List ℕ → List (List ℕ) → Type 0
SymbologyNamed b table rs = Named symbol_text b (symbology_span (length b) table) rs

abbrev pub LayoutNamed : List ℕ → List ℕ → List (List ℕ) → Type 0
LayoutNamed b table rs = Named item_text b (layout_span (length b) table) rs

-- ---- rows in a table

-- rows of kinds from low to high, all of which but a field have a text, in a table of so many rows whose numbers are the rows'
module _ (hasText : ℕ → Bool) (low high : ℕ) (texted : (k : ℕ) → (leb low k && leb k high) ≡ true → hasText k ≡ not (eqb k 11))
    (b : List ℕ) (rs : List (List ℕ)) (lie : Each (RowInside low high (length b)) rs)
    (count : ℕ) (number : ℕ → ℕ → ℕ) (room : length rs ≤ count) (same : (i j : ℕ) → i < length rs → j < 3 → number i j ≡ get_or (get_or rs i []) j 0) where
  abbrev span : ℕ → Spanned
  span i = span_of hasText (length b) count (number i) i

  -- row i has a text where it is no field, which lies within the bytes
  text_at : (i : ℕ) → i < length rs → hasText (kind_of rs i) ≡ not (eqb (kind_of rs i) 11)
  text_at i h = texted (kind_of rs i) (each_at (RowInside low high (length b)) rs lie i h).kind

  inside-at : (i : ℕ) → i < length rs → eqb (kind_of rs i) 11 ≡ false → start_of rs i + length_of rs i ≤ length b
  inside-at i h e = (each_at (RowInside low high (length b)) rs lie i h).inside e

  -- so asking for it gives its start and length, 90 for a field, and in both cases the bytes of its text
  given : (i : ℕ) → i < length rs → eqb (kind_of rs i) 11 ≡ false → span i ≡ spanned (start_of rs i) (length_of rs i)
  given i h e =
      let start = same i 1 h (omega arith) in
      let len = same i 2 h (omega arith) in
      let k : hasText (number i 0) ≡ true = ap hasText (same i 0 h (omega arith)) ∙ text_at i h ∙ ap not e in
      let f : number i 1 + number i 2 ≤ length b = omega (arith, start, len, inside-at i h e) in
      let here : i < count = omega arith in
      span-part hasText (length b) count (number i) i here k f ∙ ap₂ spanned start len

  refused : (i : ℕ) → i < length rs → eqb (kind_of rs i) 11 ≡ true → span i ≡ no_text
  refused i h e = span_none hasText (length b) count (number i) i (ap hasText (same i 0 h (omega arith)) ∙ text_at i h ∙ ap not e)

  name-at : (i : ℕ) → i < length rs → (x : Bool) → eqb (kind_of rs i) 11 ≡ x → part_in b (span i) ≡ row_text b (get_or rs i [])
  name-at i h true e = ap (part_in b) (refused i h e) ∙ part_none b (refusal 90 0) ∙ rw e refl
  name-at i h false e = ap (part_in b) (given i h e) ∙ part_bytes b (start_of rs i) (length_of rs i) (inside-at i h e) ∙ rw e refl

  -- the rows of such a table
  rows_named : Named hasText b span rs
  rows_named = record {
    part = λ i h t. given i h (go (eqb (kind_of rs i) 11) (sym (text_at i h) ∙ t));
    only-fields = λ i h t.
        let e = no (eqb (kind_of rs i) 11) (sym (text_at i h) ∙ t) in
        (eqb-true (kind_of rs i) 11 e, refused i h e);
    name = λ i h. name-at i h (eqb (kind_of rs i) 11) refl;
  }
    where
      go : (x : Bool) → not x ≡ true → x ≡ false
      go true q = sym q
      go false q = refl

      no : (x : Bool) → not x ≡ false → x ≡ true
      no true q = refl
      no false q = sym q

-- layout rows at the front of a table, one after the other
front-named : (b : List ℕ) (rs : List (List ℕ)) (rest : List ℕ) → Wide 9 rs → Each (RowInside 10 15 (length b)) rs → LayoutNamed b (flat rs ++ rest) rs
front-named b rs rest wide lie =
    let table = flat rs ++ rest in
    let m : length rs * 9 ≡ length (flat rs) = mul_comm (length rs) 9 ∙ sym (flat-length 9 rs wide) in
    let f : length rs * 9 ≤ length table = omega (arith, length-append (flat rs) rest) in
    let p : 0 < 9 = omega arith in
    let room : length rs ≤ length table / 9 = (le-div_iff_mul-le p).1 f in
    rows_named item_text 10 15 item-kinds b rs lie (length table / 9) (row_cell 9 table) room (λ i j h k. row_number 9 rs rest wide i j h (omega arith))

-- symbology rows in a table, by column
columns-named : (b : List ℕ) (rs : List (List ℕ)) (t : List ℕ) → length rs ≤ length t / 6 → Each (RowInside 0 4 (length b)) rs → SymbologyNamed b (columns 6 rs t) rs
columns-named b rs t room lie =
    let table = columns 6 rs t in
    let high : length table ≡ length t = columns-length 6 (omega arith) rs t room in
    rows_named symbol_text 0 4 symbol-kinds b rs lie (length table / 6) (cell 6 table) (subst (λ (n : ℕ). length rs ≤ n / 6) (sym high) room)
    (λ i j h k. cell_row 6 (omega arith) rs t room i j h (omega arith))

-- ---- two lists of rows

-- where the texts of two lists of rows are the same, the names are, row by row
pub names_same : (hasText : ℕ → Bool) (b b' : List ℕ) (span span' : ℕ → Spanned) (rs rs' : List (List ℕ)) → Named hasText b span rs → Named hasText b' span' rs'
    → length rs' ≡ length rs → map (row_text b') rs' ≡ map (row_text b) rs
    → (i : ℕ) → i < length rs → part_in b' (span' i) ≡ part_in b (span i)
names_same hasText b b' span span' rs rs' p q l e i h =
    q.name i (subst (λ (n : ℕ). i < n) (sym l) h)
    ∙ sym (get_or-map (row_text b') rs' i []) ∙ ap (λ (xs : List (List ℕ)). get_or xs i []) e ∙ get_or-map (row_text b) rs i []
    ∙ sym (p.name i h)

-- where the rows of a table, of w numbers, are rows with their starts moved, a row with a text gives the moved start and the same length
pub moved-part : (w : ℕ) (hasText : ℕ → Bool) (f : ℕ → ℕ) (b : List ℕ) (span : ℕ → Spanned) (rs rs' : List (List ℕ)) → 2 ≤ w → Wide w rs → Named hasText b span rs' → rs' ≡ map (move_row f) rs
    → (i : ℕ) → i < length rs → hasText (kind_of rs i) ≡ true → eqb (kind_of rs i) 11 ≡ false → span i ≡ spanned (f (start_of rs i)) (length_of rs i)
moved-part w hasText f b span rs rs' two wide n e i h has field =
    let r : List ℕ = get_or rs i [] in
    let q : get_or rs' i [] ≡ move_row f r = ap (λ (xs : List (List ℕ)). get_or xs i []) e ∙ get_or-map (move_row f) rs i [] in
    let l : i < length rs' = subst (λ (m : ℕ). i < m) (sym (ap length e ∙ length-map rs (move_row f))) h in
    let k : hasText (kind_of rs' i) ≡ true = ap (λ (v : List ℕ). hasText (get_or v 0 0)) q ∙ ap hasText (move_kind f r) ∙ has in
    let g : 2 ≤ length r = omega (arith, each_at (λ (v : List ℕ). length v ≡ w) rs wide i h) in
    n.part i l k ∙ ap₂ spanned (ap (λ (v : List ℕ). get_or v 1 0) q ∙ move_start f r g field) (ap (λ (v : List ℕ). get_or v 2 0) q ∙ move_length f r)

-- ---- an accepted block, an accepted layout

-- the symbology rows of an accepted block, of any version, in a table that is high enough
pub symbology-named : (version : ℕ) (sheet b : List ℕ) (z : Block × List ℕ) (k : ℕ) (t : List ℕ) → Bytes b → block_of version sheet b ≡ ok z k → length (sixes z.0) ≤ length t / 6
    → SymbologyNamed b (columns 6 (sixes z.0) t) (sixes z.0)
symbology-named version sheet b z k t bs e room = columns-named b (sixes z.0) t room (sixes_lie version sheet b z k bs e)

-- all of them have a text
pub symbology_texted : (version : ℕ) (sheet b : List ℕ) (z : Block × List ℕ) (k : ℕ) → Bytes b → block_of version sheet b ≡ ok z k
    → (i : ℕ) → i < length (sixes z.0) → symbol_text (kind_of (sixes z.0) i) ≡ true
symbology_texted version sheet b z k bs e i h = symbol-text (kind_of (sixes z.0) i) (each_at (RowInside 0 4 (length b)) (sixes z.0) (sixes_lie version sheet b z k bs e) i h).kind

-- the layout rows of an accepted version 4 block, over the front of a table; below 4 there are none
pub block-layout-named : (sheet b : List ℕ) (z : Block × List ℕ) (k : ℕ) (t : List ℕ) → Bytes b → block_of 4 sheet b ≡ ok z k
    → LayoutNamed (layout_in sheet b) (over (nines z.0) 9 t) (nines z.0)
block-layout-named sheet b z k t bs e =
    front-named (layout_in sheet b) (nines z.0) (drop (9 * length (nines z.0)) t) (rows-nine z.0.layout) (nines_lie sheet b z k bs e)

-- the names after a call that reads an accepted version 4 block into tables that hold its rows
pub record Asked (sheet b : List ℕ) (z : Block) (s' l' : List ℕ) : Type 0 where
  pub symbology : SymbologyNamed b s' (sixes z)
  pub layout : LayoutNamed (layout_in sheet b) l' (nines z)

pub asked : (sheet b : List ℕ) (z : Block × List ℕ) (k : ℕ) → Bytes b → block_of 4 sheet b ≡ ok z k → {s l : List ℕ} {r : Result Fields ReadError} {s' l' : List ℕ} → length (sixes z.0) ≤ length s / 6 → Held 4 z.0 s l r s' l' → Asked sheet b z.0 s' l'
asked sheet b z k bs e {s} {l} room h = record {
  symbology = subst (λ (t : List ℕ). SymbologyNamed b t (sixes z.0)) (sym h.symbology) (symbology-named 4 sheet b z k s bs e room);
  layout = subst (λ (t : List ℕ). LayoutNamed (layout_in sheet b) t (nines z.0)) (sym h.layout) (block-layout-named sheet b z k l bs e);
}

-- the rows of an accepted layout
pub layout-named : (s : List ℕ) (t : Layout) (j : ℕ) (rest : List ℕ) → Bytes s → layout_of s ≡ ok t j → LayoutNamed s (flat (rows t) ++ rest) (rows t)
layout-named s t j rest bs e = front-named s (rows t) rest (rows-nine t) (layout-lies s t j bs e)

-- and of one that the rules accept with a symbol width
pub ruled-named : (sheet : List ℕ) (width : ℕ) (s : List ℕ) (t : Layout) (j : ℕ) (rest : List ℕ) → Bytes s → ruled_of sheet width s ≡ ok t j → LayoutNamed s (flat (rows t) ++ rest) (rows t)
ruled-named sheet width s t j rest bs e = let (i, l) = ruled-layout sheet width s t j e in layout-named s t i rest bs l

-- rows that are well formed, in a table of their own with the text that is lent with them
pub formed-named : (table text : List ℕ) → Formed table text → LayoutNamed text table (rows_in table)
formed-named table text w =
    let e : flat (rows_in table) ++ [] ≡ table = append-nil (flat (rows_in table)) ∙ ap flat (sym (tree-rows table text 0 w)) ∙ tree-flat table text 0 w in
    let wide : Wide 9 (rows_in table) = subst (Wide 9) (tree-rows table text 0 w) (rows-nine (tree_of 0 table text)) in
    subst (λ (t : List ℕ). LayoutNamed text t (rows_in table)) e (front-named text (rows_in table) [] wide (rows_in_lie table text w))
