-- Demand 3, of what a caller gets: two calls that read an accepted version 4 block and an edit of it give the same answer, the same
-- rows in both tables, each start moved by what was put in before it, and the same names.
-- Assumes nothing.
use Rattle.block_format.specs.declared.Fields.{Fields}
use Rattle.block_format.specs.declared.ReadError.{ReadError}
use Rattle.std.specs.Prelude.{ℕ, ◌+◌, ◌/◌, ◌≤◌, ◌<◌, ◌≡◌, refl, true, List, ◌++◌, map, length, Result, Ok}
use Rattle.std.proofs.Common.{arith, sym, ap, ◌∙◌, subst}
use Rattle.std.proofs.lemmas.List.{length-map}
use Rattle.codec.specs.Codec.{ok, Bytes}
use Rattle.codec.specs.Edits.{Marked, bytes_of, Edit, put}
use Rattle.table.specs.Columns.{columns}
use Rattle.layout.specs.ReadLaws.{rows-nine}
use Rattle.symbology_format.specs.WidthLaws.{rows-of-six}
use Rattle.names.proofs.SpanLaws.{symbol-no_field, item-no_field}
use Rattle.names.specs.Names.{symbol_text, item_text, symbology_span, layout_span, part_in, spanned}
use Rattle.metadata_lengths.specs.Lengths.{lengths}
use Rattle.block_format.specs.Block.{Block, block_of}
use Rattle.block_format.specs.Fields.{fields_of}
use Rattle.block_format.specs.Read.{sixes, nines, over, block_answer, block_symbology, block_layout, Promise}
use Rattle.block_format.proofs.ReadLaws.{held}
use Rattle.demands.specs.LayoutRows.{move_row}
use Rattle.demands.specs.Edited.{layout_in}
use Rattle.demands.specs.Demand3.{marking, SameRead, demand3}
use Rattle.demands.specs.PublicNames.{kind_of, start_of, length_of, names_same, moved-part, symbology_texted, asked}

-- what a call was lent, a symbology and a layout table, and what it gave: an answer and both tables
pub record Call : Type 0 where
  pub symbology : List ℕ
  pub layout : List ℕ
  pub answer : Result Fields ReadError
  pub symbology-after : List ℕ
  pub layout-after : List ℕ

-- the call reads the version 4 block b as `read_block` promises, and the tables hold the rows of the block z
pub record Reads (sheet b : List ℕ) (z : Block) (c : Call) : Type 0 where
  pub promise : Promise 4 b sheet c.symbology c.layout c.answer c.symbology-after c.layout-after
  pub symbology-room : length (sixes z) ≤ length c.symbology / 6
  pub layout-room : length (nines z) ≤ length c.layout / 9

-- the call c on the block b, read as z, and the call d on the edited block b': `before n` bytes were put in before place n of b
pub record SameCalls (sheet b : List ℕ) (z : Block) (b' : List ℕ) (before : ℕ → ℕ) (c d : Call) : Type 0 where
  -- the same answer: the block's fields
  pub answer : c.answer ≡ Ok (fields_of (lengths 4) z)
  pub same_answer : d.answer ≡ c.answer
  -- both symbology tables have the rows by column, after the second call each start moved; the rest of each is as it was
  pub symbology : c.symbology-after ≡ columns 6 (sixes z) c.symbology
  pub symbology-moved : d.symbology-after ≡ columns 6 (map (move_row (λ n. n + before n)) (sixes z)) d.symbology
  -- both layout tables begin with the rows, in the same way; a layout's first byte stands at place 104
  pub layout : c.layout-after ≡ over (nines z) 9 c.layout
  pub layout-moved : d.layout-after ≡ over (map (move_row (λ n. n + before (104 + n))) (nines z)) 9 d.layout
  -- asked for by index, every symbology row gives its start and length, and never 90; the second call's start is moved
  pub parts : (i : ℕ) → i < length (sixes z) → symbology_span (length b) c.symbology-after i ≡ spanned (start_of (sixes z) i) (length_of (sixes z) i)
  pub parts-moved : (i : ℕ) → i < length (sixes z) → symbology_span (length b') d.symbology-after i ≡ spanned (start_of (sixes z) i + before (start_of (sixes z) i)) (length_of (sixes z) i)
  -- so does every layout row whose kind has a text
  pub layout-parts : (i : ℕ) → i < length (nines z) → item_text (kind_of (nines z) i) ≡ true
      → layout_span (length (layout_in sheet b)) c.layout-after i ≡ spanned (start_of (nines z) i) (length_of (nines z) i)
  pub layout-parts-moved : (i : ℕ) → i < length (nines z) → item_text (kind_of (nines z) i) ≡ true
      → layout_span (length (layout_in sheet b')) d.layout-after i ≡ spanned (start_of (nines z) i + before (104 + start_of (nines z) i)) (length_of (nines z) i)
  -- each name the same bytes
  pub names : (i : ℕ) → i < length (sixes z) → part_in b' (symbology_span (length b') d.symbology-after i) ≡ part_in b (symbology_span (length b) c.symbology-after i)
  pub layout-names : (i : ℕ) → i < length (nines z)
      → part_in (layout_in sheet b') (layout_span (length (layout_in sheet b')) d.layout-after i) ≡ part_in (layout_in sheet b) (layout_span (length (layout_in sheet b)) c.layout-after i)

module _ (sheet b : List ℕ) (z : Block) (r : List ℕ) (k : ℕ) (bytes : Bytes b) (read : block_of 4 sheet b ≡ ok (z, r) k) where
  same_calls : (b' : List ℕ) (before : ℕ → ℕ) → Bytes b' → SameRead sheet b z b' before → (c d : Call) → Reads sheet b z c → Reads sheet b' z d → SameCalls sheet b z b' before c d
  same_calls b' before bytes' e c d p q =
      let f : ℕ → ℕ = λ n. n + before n in
      let g : ℕ → ℕ = λ n. n + before (104 + n) in
      let y = e.value in
      let n6 : length (sixes y) ≡ length (sixes z) = ap length e.symbology ∙ length-map (sixes z) (move_row f) in
      let n9 : length (nines y) ≡ length (nines z) = ap length e.layout ∙ length-map (nines z) (move_row g) in
      let H = held (z, r) k p.promise read p.symbology-room p.layout-room in
      let room = subst (λ (n : ℕ). n ≤ length d.symbology / 6) (sym n6) q.symbology-room in
      let H' = held (y, e.rest) (length b') q.promise e.accepted room (subst (λ (n : ℕ). n ≤ length d.layout / 9) (sym n9) q.layout-room) in
      let again : Promise 4 b sheet d.symbology d.layout (block_answer 4 b sheet d.symbology d.layout) (block_symbology 4 b sheet d.symbology d.layout) (block_layout 4 b sheet d.symbology d.layout) =
      record { answer = refl; symbology = refl; layout = refl } in
      let A = held (z, r) k again read q.symbology-room q.layout-room in
      let t6 : d.symbology-after ≡ columns 6 (map (move_row f) (sixes z)) d.symbology = H'.symbology ∙ ap (λ (rs : List (List ℕ)). columns 6 rs d.symbology) e.symbology in
      let t9 : d.layout-after ≡ over (map (move_row g) (nines z)) 9 d.layout = H'.layout ∙ ap (λ (rs : List (List ℕ)). over rs 9 d.layout) e.layout in
      let N = asked sheet b (z, r) k bytes read p.symbology-room H in
      let M = asked sheet b' (y, e.rest) (length b') bytes' e.accepted room H' in
      let has = symbology_texted 4 sheet b (z, r) k bytes read in
      record {
        answer = H.answer;
        same_answer = q.promise.answer ∙ e.answer d.symbology d.layout ∙ A.answer ∙ sym H.answer;
        symbology = H.symbology;
        symbology-moved = t6;
        layout = H.layout;
        layout-moved = t9;
        parts = λ i h. N.symbology.part i h (has i h);
        parts-moved = λ i h. moved-part 6 symbol_text f b' (symbology_span (length b') d.symbology-after) (sixes z) (sixes y) (omega arith) (rows-of-six z.symbology) M.symbology e.symbology i h (has i h) (symbol-no_field (kind_of (sixes z) i) (has i h));
        layout-parts = N.layout.part;
        layout-parts-moved = λ i h t. moved-part 9 item_text g (layout_in sheet b') (layout_span (length (layout_in sheet b')) d.layout-after) (nines z) (nines y) (omega arith) (rows-nine z.layout) M.layout e.layout i h t (item-no_field (kind_of (nines z) i) t);
        names = names_same symbol_text b b' (symbology_span (length b) c.symbology-after) (symbology_span (length b') d.symbology-after) (sixes z) (sixes y) N.symbology M.symbology n6 e.names;
        layout-names = names_same item_text (layout_in sheet b) (layout_in sheet b') (layout_span (length (layout_in sheet b)) c.layout-after) (layout_span (length (layout_in sheet b')) d.layout-after) (nines z) (nines y) N.layout M.layout n9 e.layout_names;
      }

  -- DEMAND 3 over two promises: b is accepted as z, and any edit of its marked bytes, with any bytes after them, is read by a second call
  pub demand3_calls : (m : Marked) (r' : List ℕ) (e : Edit (marking sheet z) m) → length (bytes_of m ++ r') ≤ 4294967295 → Bytes (bytes_of m ++ r')
      → (c d : Call) → Reads sheet b z c → Reads sheet (bytes_of m ++ r') z d → SameCalls sheet b z (bytes_of m ++ r') (put e) c d
  demand3_calls m r' e fits bytes' = same_calls (bytes_of m ++ r') (put e) bytes' ((demand3 sheet b z r k bytes read).edits m r' e fits)
