-- Demand 3: an accepted version 4 block whose skipped bytes are filled at will, and into which bytes are put at the end of any
-- layout section, of the layout or of the block, is read to the same fields and rows, each name the same bytes, its start
-- moved by what was put in before it.
-- Assumes nothing.
use Rattle.std.specs.Prelude.{ℕ, suc, ◌+◌, ◌≤◌, ◌≡◌, List, [], ◌∷◌, ◌++◌, map}
use Rattle.std.proofs.Common.{arith, ◌∙◌, subst}
use Rattle.std.proofs.Math.Path.{refl, sym, ap, ap₂, path_j}
use Rattle.std.proofs.Math.ListN.{length, length-append}
use borrow.Author.Tests.{le-leb}
use Rattle.codec.specs.Codec.{ok, Bytes, raw, skip, num, named, checked, judged, whole, boxed, ◌then◌, ◌on◌}
use Rattle.codec.proofs.Laws.{whole-reads}
use Rattle.codec.specs.Edits.{Marked, bytes_of, Edit, put}
use Rattle.text.specs.Utf8.{utf8}
use Rattle.wire.specs.Reader.{all_tests}
use Rattle.padded.specs.Padded.{nul_padded}
use Rattle.dates.specs.Date.{is_date}
use Rattle.layout.specs.LayoutOf.{D}
use Rattle.layout.specs.Layout.{parts, to_layout, bare_layout}
use Rattle.layout.specs.TextLaws.{row_text, texts}
use Rattle.metadata_lengths.specs.Lengths.{v4, lengths}
use Rattle.block_format.specs.Block.{Header, Block, header, layout_part, block, block_of}
use Rattle.block_format.specs.Fields.{fields_with, fields_of}
use Rattle.block_format.specs.Read.{sixes, nines, block_answer, answer_of}
use Rattle.demands.specs.LayoutRows.{move_row}
use Rattle.demands.specs.SymbologyRows.{symbology_texts, symbology-located}
use Rattle.demands.specs.Edited.{header-length, B4, width, section, layout_in, header-bare, layout-bare, parted, nines_move, sixes_move, section-moved, section_stays, nines-texts, sixes-texts, rest-bytes, block_back}

-- the bytes of an accepted block by what may become of them; the bytes after them are ignored
abbrev pub marking : List ℕ → Block → Marked
marking sheet z = (block sheet v4).edits.marks z

-- how the edited block b' is read, where b is read as z: `before n` bytes were put in before place n of b
pub record SameRead (sheet b : List ℕ) (z : Block) (b' : List ℕ) (before : ℕ → ℕ) : Type 0 where
  pub value : Block
  pub rest : List ℕ
  pub accepted : block_of 4 sheet b' ≡ ok (value, rest) (length b')
  -- the same answer: the fields and the counts of rows, or that a table is short
  pub answer : (s l : List ℕ) → block_answer 4 b' sheet s l ≡ block_answer 4 b sheet s l
  -- the same rows, each start moved; a layout's first byte stands at place 104
  pub symbology : sixes value ≡ map (move_row (λ n. n + before n)) (sixes z)
  pub layout : nines value ≡ map (move_row (λ n. n + before (104 + n))) (nines z)
  -- each name the same bytes
  pub names : map (row_text b') (sixes value) ≡ map (row_text b) (sixes z)
  pub layout_names : map (row_text (layout_in sheet b')) (nines value) ≡ map (row_text (layout_in sheet b)) (nines z)

module _ (sheet : List ℕ) where
  block-of : (b : List ℕ) → 100 ≤ length b → length b ≤ 4294967295 → block_of 4 sheet b ≡ whole (B4 sheet) 0 b
  unfolding block_of lengths
  block-of b lo hi = rw (le-leb 100 (length b) lo, le-leb (length b) 4294967295 hi)

  fields-bare : (h : Header) (n i j : ℕ) → fields_with v4 ((header v4).codec.bare h) n i j ≡ fields_with v4 h n i j
  unfolding fields_with header named ◌then◌ checked raw num skip
  fields-bare h n i j = refl

  header_at : (x : Block) → ((B4 sheet).locate 0 x).header ≡ x.header
  unfolding block header named ◌on◌ ◌then◌ checked raw num skip
  header_at x = refl

  version-bare : (x y : Block) → (B4 sheet).bare y ≡ (B4 sheet).bare x → y.layout.version ≡ x.layout.version
  unfolding parts ◌then◌ num
  version-bare x y e = ap (λ p. p.0) (layout-bare sheet x y e)

  version-at : (x : Block) → ((B4 sheet).locate 0 x).layout.version ≡ x.layout.version
  unfolding block named ◌on◌ ◌then◌ layout_part judged boxed parts num
  version-at x = refl

  length-map : {A B : Type 0} (f : A → B) (xs : List A) → length (map f xs) ≡ length xs
  length-map f [] = refl
  length-map f (x ∷ xs) = ap suc (length-map f xs)

  fields-same : (x y : Block) → (B4 sheet).bare y ≡ (B4 sheet).bare x → (B4 sheet).locate 0 x ≡ x
      → length (sixes ((B4 sheet).locate 0 y)) ≡ length (sixes x) → length (nines ((B4 sheet).locate 0 y)) ≡ length (nines x)
      → fields_of v4 ((B4 sheet).locate 0 y) ≡ fields_of v4 x
  unfolding fields_of
  fields-same x y e at f n =
      let z = (B4 sheet).locate 0 y in
      let v : z.layout.version ≡ x.layout.version = version-at y ∙ version-bare x y e in
      let i = length (sixes x) in
      let j = length (nines x) in
      let h : fields_with v4 z.header x.layout.version i j ≡ fields_with v4 x.header x.layout.version i j =
      ap (λ h. fields_with v4 h x.layout.version i j) (header_at y)
      ∙ sym (fields-bare y.header x.layout.version i j)
      ∙ ap (λ h. fields_with v4 h x.layout.version i j) (header-bare sheet x y e)
      ∙ fields-bare x.header x.layout.version i j in
      ap₂ (λ a b. fields_with v4 z.header z.layout.version a b) f n ∙ ap (λ a. fields_with v4 z.header a i j) v ∙ h

  bare-texts : (x y : Block) → (B4 sheet).bare y ≡ (B4 sheet).bare x → texts (bare_layout all_tests D y.layout) ≡ texts (bare_layout all_tests D x.layout)
  unfolding bare_layout
  bare-texts x y e = ap (λ p. texts (to_layout (p, []))) (layout-bare sheet x y e)

  long : (y : Block) (r : List ℕ) → (B4 sheet).legal y → 100 ≤ length ((B4 sheet).print y ++ r)
  unfolding block named ◌on◌ ◌then◌
  long y r lg = simp length-append (omega (arith, header-length y.header lg.0))

  -- tables lent: the answer goes by the counts and the fields alone
  answers-same : (b b' : List ℕ) (x z : Block) (r r' : List ℕ) (i j : ℕ) → block_of 4 sheet b ≡ ok (x, r) i → block_of 4 sheet b' ≡ ok (z, r') j
      → length (sixes z) ≡ length (sixes x) → length (nines z) ≡ length (nines x) → fields_of v4 z ≡ fields_of v4 x
      → (s l : List ℕ) → block_answer 4 b' sheet s l ≡ block_answer 4 b sheet s l
  unfolding block_answer answer_of lengths
  answers-same b b' x z r r' i j p q f n e s l = rw (p, q, f, n, e)

  module _ (b : List ℕ) (x : Block) (r : List ℕ) (k : ℕ) (read : block_of 4 sheet b ≡ ok (x, r) k) (bytes : b ≡ (B4 sheet).print x ++ r)
      (legal : (B4 sheet).legal x) (at : (B4 sheet).locate 0 x ≡ x) where
    reread : (y : Block) (r' : List ℕ) → (B4 sheet).legal y → (B4 sheet).bare y ≡ (B4 sheet).bare x → (e : Edit (marking sheet x) (marking sheet y))
        → length (bytes_of (marking sheet y) ++ r') ≤ 4294967295 → SameRead sheet b x (bytes_of (marking sheet y) ++ r') (put e)
    reread y r' ly same e fits =
        let c = B4 sheet in
        let z = c.locate 0 y in
        let p = (block sheet v4).edits.marked y in
        let b' = bytes_of (marking sheet y) ++ r' in
        let q : b' ≡ c.print y ++ r' = ap (λ v. v ++ r') p in
        let d = parted sheet x y legal ly e in
        let low : 100 ≤ length b' = omega (arith, ap length q, long y r' ly) in
        let ok' : block_of 4 sheet b' ≡ ok (z, r') (length b') = block-of b' low fits ∙ subst (λ v. whole c 0 v ≡ ok (z, r') (length v)) (sym q) (whole-reads c (block sheet v4).law 0 y r' ly) in
        let f6 : sixes z ≡ map (move_row (λ n. n + put e n)) (sixes x) = subst (λ v. sixes z ≡ map (move_row (λ n. n + put e n)) (sixes v)) at (sixes_move sheet x y (put e) legal ly same d) in
        let f9 : nines z ≡ map (move_row (λ n. n + put e (104 + n))) (nines x) = subst (λ v. nines z ≡ map (move_row (λ n. n + put e (104 + n))) (nines v)) at (nines_move sheet x y (put e) legal same d) in
        let n6 = ap length f6 ∙ length-map _ (sixes x) in
        let n9 = ap length f9 ∙ length-map _ (nines x) in
        record {
          value = z;
          rest = r';
          accepted = ok';
          answer = answers-same b b' x z r r' k (length b') read ok' n6 n9 (fields-same x y same at n6 n9);
          symbology = f6;
          layout = f9;
          names =
              ap (λ v. map (row_text v) (sixes z)) q ∙ sixes-texts sheet y r'
              ∙ ap symbology_texts (section-moved sheet x y (put e) legal ly same d) ∙ symbology-located utf8 nul_padded is_date (width sheet x) (section sheet y + 4) x.symbology
              ∙ sym (symbology-located utf8 nul_padded is_date (width sheet x) (section sheet x + 4) x.symbology) ∙ ap symbology_texts (sym (section_stays sheet x))
              ∙ sym (sixes-texts sheet x r) ∙ ap₂ (λ v u. map (row_text v) (sixes u)) (sym bytes) at;
          layout_names =
              ap (λ v. map (row_text (layout_in sheet v)) (nines z)) q ∙ nines-texts sheet y r' ly (rest-bytes sheet y ly)
              ∙ bare-texts x y same
              ∙ sym (nines-texts sheet x r legal (rest-bytes sheet x legal)) ∙ ap₂ (λ v u. map (row_text (layout_in sheet v)) (nines u)) (sym bytes) at;
        }

  -- DEMAND 3. The marked bytes of an accepted block are its bytes. Every edit of them, with any bytes after them, is read the same
  pub record Demand3 (b : List ℕ) (z : Block) (r : List ℕ) : Type 0 where
    pub whole-block : b ≡ bytes_of (marking sheet z) ++ r
    pub edits : (m : Marked) (r' : List ℕ) (e : Edit (marking sheet z) m) → length (bytes_of m ++ r') ≤ 4294967295 → SameRead sheet b z (bytes_of m ++ r') (put e)

  pub demand3 : (b : List ℕ) (z : Block) (r : List ℕ) (k : ℕ) → Bytes b → block_of 4 sheet b ≡ ok (z, r) k → Demand3 b z r
  demand3 b z r k bs read =
      let w = block_back sheet b (z, r) k bs read in
      record {
        whole-block = w.bytes ∙ ap (λ v. v ++ r) (sym ((block sheet v4).edits.marked z));
        edits = λ m r' e fits.
            let y = (block sheet v4).edits.edited z m w.legal e in
            path_j (λ m _. (e : Edit (marking sheet z) m) → length (bytes_of m ++ r') ≤ 4294967295 → SameRead sheet b z (bytes_of m ++ r') (put e))
            (λ e fits. reread b z r k read w.bytes w.legal w.located y.value r' y.legal y.same e fits) y.is e fits;
      }
