-- Demand 3, its last sentence: one byte or more added at the end of the symbology section, its length raised and fitting, is
-- refused by 28, at the first added byte.
-- Assumes nothing.
use Rattle.std.specs.Prelude.{ℕ, ◌+◌, ◌-◌, ◌^◌, ◌≤◌, ◌<◌, ◌≡◌, false, List, [], ◌∷◌, ◌++◌}
use Rattle.std.proofs.Common.{zero-le, zero-add, arith, ◌∙◌, subst, append_assoc, append-nil, drop-drop}
use Rattle.std.proofs.Math.Path.{refl, sym, ap}
use Rattle.std.proofs.Math.Bool.{true}
use Rattle.std.proofs.Math.ListN.{length, drop, length-append}
use Rattle.std.proofs.Math.Seq.{drop-append_seam}
use borrow.Author.Tests.{le-leb}
use Rattle.codec.specs.Codec.{ok, refuse, refusal, Bytes, little, raw, skip, num, named, checked, judged, whole, boxed, is_nil, full, ◌then◌, ◌on◌}
use Rattle.codec.proofs.Laws.{Here, length-little, law-boxed}
use Rattle.text.specs.Utf8.{utf8}
use Rattle.wire.specs.Reader.{all_tests}
use Rattle.padded.specs.Padded.{nul_padded}
use Rattle.dates.specs.Date.{is_date}
use Rattle.layout.specs.LayoutOf.{D}
use Rattle.layout.specs.Layout.{print_layout}
use Rattle.symbology_format.specs.Symbology.{Symbology, symbology}
use Rattle.metadata_lengths.specs.Lengths.{v4, lengths}
use Rattle.block_format.specs.Block.{Header, Block, header, layout_part, symbology_part, block, block_of}
use Rattle.demands.specs.Edited.{header-length, B4, width, layout_in, layout-bytes, header-legal, symbology-legal, block_back}

is_nil-some : (u : List ℕ) → 0 < length u → is_nil u ≡ false
is_nil-some [] h = absurd (omega arith)
is_nil-some (x ∷ u) h = refl

-- the symbology section of a block, with u added at its end and its length raised
abbrev pub longer : ℕ → Symbology → List ℕ → List ℕ
longer w t u = little 4 (0 + length ((symbology utf8 nul_padded is_date w).codec.print t ++ u)) ++ ((symbology utf8 nul_padded is_date w).codec.print t ++ u)

section28 : (w base : ℕ) (s : List ℕ) (i : ℕ) (t : Symbology) (u r : List ℕ) → (symbology utf8 nul_padded is_date w).codec.legal t → Bytes u → 0 < length u
    → 0 + length ((symbology utf8 nul_padded is_date w).codec.print t ++ u) < 256 ^ 4 → Here s i (longer w t u) r → (symbology_part true w).codec.parse base s i ≡ refuse (refusal 28 (i + (4 + length ((symbology utf8 nul_padded is_date w).codec.print t))))
unfolding symbology_part full boxed
section28 w base s i t u r lg bs some fit here =
    let T : List ℕ = (symbology utf8 nul_padded is_date w).codec.print t in
    let at : i + length (longer w t u) - length u ≡ i + (4 + length T) =
    omega (arith, length-append (little 4 (0 + length (T ++ u))) (T ++ u), length-little 4 (0 + length (T ++ u)), length-append T u) in
    rw (
      (law-boxed (symbology utf8 nul_padded is_date w).codec (symbology utf8 nul_padded is_date w).law 27 27 45 4 0 0 zero-le (λ x lg. zero-le) (λ p. p) (symbology utf8 nul_padded is_date w).codec.each (symbology utf8 nul_padded is_date w).law.spotted).reads base s i (t, u) r (lg, bs, fit) here,
      is_nil-some u some,
    )
    (ap (λ (n : ℕ). refuse (refusal 28 n)) at)

header-still : (p : ℕ) (h : Header) → (header v4).codec.locate p h ≡ h
unfolding header named ◌then◌ checked raw num skip
header-still p h = refl

module _ (sheet : List ℕ) (z : Block) where
  abbrev H : List ℕ
  H = (header v4).codec.print z.header

  abbrev L : List ℕ
  L = (layout_part true sheet (width sheet z)).codec.print z.layout

  -- the block with u added at the end of its symbology section, and r after it
  abbrev pub grown : List ℕ → List ℕ → List ℕ
  grown u r = H ++ (L ++ (longer (width sheet z) z.symbology u ++ r))

  -- the place of the first added byte
  abbrev added : ℕ
  added = 0 + length H + length L + (4 + length ((symbology utf8 nul_padded is_date (width sheet z)).codec.print z.symbology))

  block28 : (u r : List ℕ) → (B4 sheet).legal z → Bytes u → 0 < length u → 0 + length ((symbology utf8 nul_padded is_date (width sheet z)).codec.print z.symbology ++ u) < 256 ^ 4
      → (B4 sheet).parse 0 (grown u r) 0 ≡ refuse (refusal 28 added)
  unfolding block named ◌on◌ ◌then◌
  block28 u r lg bs some fit =
      let s = grown u r in
      let X = longer (width sheet z) z.symbology u in
      let h1 : Here s 0 H (L ++ (X ++ r)) = record { inside = zero-le; bytes = refl } in
      let h2 : Here s (0 + length H) L (X ++ r) = record { inside = simp length-append (omega arith); bytes = ap (λ n. drop n s) (zero-add (length H)) ∙ drop-append_seam H (L ++ (X ++ r)) } in
      let h3 : Here s (0 + length H + length L) X r = record {
        inside = simp length-append (omega arith);
        bytes = sym (drop-drop (length L) (0 + length H) s) ∙ ap (drop (length L)) h2.bytes ∙ drop-append_seam L (X ++ r);
      } in
      rw (
        (header v4).law.reads 0 s 0 z.header (L ++ (X ++ r)) lg.0 h1,
        header-still (0 + 0) z.header,
        (layout_part true sheet (width sheet z)).law.reads 0 s (0 + length H) z.layout (X ++ r) lg.1.0 h2,
        section28 (width sheet z) 0 s (0 + length H + length L) z.symbology u r (symbology-legal sheet z lg) bs some fit h3,
      )

  whole28 : (u r : List ℕ) → (B4 sheet).legal z → Bytes u → 0 < length u → 0 + length ((symbology utf8 nul_padded is_date (width sheet z)).codec.print z.symbology ++ u) < 256 ^ 4
      → length (grown u r) ≤ 4294967295 → block_of 4 sheet (grown u r) ≡ refuse (refusal 28 added)
  unfolding block_of lengths whole
  whole28 u r lg bs some fit high =
      let low : 100 ≤ length (grown u r) = simp length-append (omega (arith, header-length z.header (header-legal sheet z lg))) in
      rw (le-leb 100 (length (grown u r)) low, le-leb (length (grown u r)) 4294967295 high, block28 u r lg bs some fit)

-- where the symbology section of an accepted block stands, and what is answered where u is added at its end
pub record Spanned (sheet b r : List ℕ) : Type 0 where
  pub front : List ℕ
  pub contents : List ℕ
  -- the header's 100 bytes, the layout's length and the layout; then the section's length and its contents; then what is ignored
  pub whole-block : b ≡ front ++ (little 4 (0 + length contents) ++ (contents ++ r))
  pub place : length front ≡ 104 + length (layout_in sheet b)
  pub refused : (u : List ℕ) → Bytes u → 0 < length u → 0 + length (contents ++ u) < 256 ^ 4
      → length (front ++ (little 4 (0 + length (contents ++ u)) ++ ((contents ++ u) ++ r))) ≤ 4294967295
      → block_of 4 sheet (front ++ (little 4 (0 + length (contents ++ u)) ++ ((contents ++ u) ++ r))) ≡ refuse (refusal 28 (length front + (4 + length contents)))

print-is : (sheet : List ℕ) (z : Block) → (B4 sheet).print z ≡ H sheet z ++ (L sheet z ++ (symbology_part true (width sheet z)).codec.print z.symbology)
unfolding block named ◌on◌ ◌then◌
print-is sheet z = refl

section-is : (w : ℕ) (t : Symbology) → (symbology_part true w).codec.print t ≡ longer w t []
unfolding symbology_part full boxed
section-is w t = refl

layout-length : (sheet : List ℕ) (z : Block) → length (L sheet z) ≡ 4 + length (print_layout all_tests D z.layout)
unfolding layout_part named judged boxed print_layout
layout-length sheet z = omega arith

-- DEMAND 3, the symbology section
pub demand28 : (sheet b : List ℕ) (z : Block) (r : List ℕ) (k : ℕ) → Bytes b → block_of 4 sheet b ≡ ok (z, r) k → Spanned sheet b r
demand28 sheet b z r k bs read =
    let w = block_back sheet b (z, r) k bs read in
    let T = (symbology utf8 nul_padded is_date (width sheet z)).codec.print z.symbology in
    record {
      front = H sheet z ++ L sheet z;
      contents = T;
      whole-block =
          w.bytes ∙ ap (λ v. v ++ r) (print-is sheet z ∙ ap (λ v. H sheet z ++ (L sheet z ++ v)) (section-is (width sheet z) z.symbology ∙ ap (λ v. little 4 (0 + length v) ++ v) (append-nil T)))
          ∙ regroup (H sheet z) (L sheet z) (little 4 (0 + length T)) T r;
      place =
          length-append (H sheet z) (L sheet z)
          ∙ omega (arith, header-length z.header (header-legal sheet z w.legal), layout-length sheet z, ap (λ v. length (layout_in sheet v)) w.bytes ∙ ap length (layout-bytes sheet z r w.legal));
      refused = λ u bu some fit high.
          let q = glue (H sheet z) (L sheet z) (little 4 (0 + length (T ++ u))) (T ++ u) r in
          let at : added sheet z ≡ length (H sheet z ++ L sheet z) + (4 + length T) = omega (arith, length-append (H sheet z) (L sheet z)) in
          ap (block_of 4 sheet) q ∙ whole28 sheet z u r w.legal bu some fit (subst (λ v. length v ≤ 4294967295) q high) ∙ ap (λ (n : ℕ). refuse (refusal 28 n)) at;
    }
  where
    regroup : (a b c d r : List ℕ) → (a ++ (b ++ (c ++ d))) ++ r ≡ (a ++ b) ++ (c ++ (d ++ r))
    regroup a b c d r = simp append_assoc

    glue : (a b c d r : List ℕ) → (a ++ b) ++ (c ++ (d ++ r)) ≡ a ++ (b ++ ((c ++ d) ++ r))
    glue a b c d r = simp append_assoc
