-- What a well sized block is refused for: its first fault in wire order. So the reader's number is known before a byte is written. And how many bytes a block has.
-- Assumes nothing.
use Rattle.std.specs.Prelude.{ℕ, ◌+◌, ◌^◌, ◌<◌, ◌≡◌, refl, Bool, true, false, cond, List, [], length, leb, eqb}
use Rattle.std.proofs.Common.{zero-add, arith, ap, subst, append-nil, length-append, le-leb, leb-true}
use Rattle.codec.specs.Codec.{ok, Bytes, raw, skip, num, ◌then◌, ◌on◌, named, checked, judged, sized, whole, boxed, is_nil, full, remainder}
use Rattle.codec.proofs.Laws.{law-raw, law-skip, law-num, length-little, unmoved}
use Rattle.codec.specs.Faults.{unless, first, first-end, unless-zero}
use Rattle.codec.proofs.FaultLaws.{Told, Faults, need-told, bind_told, when_told, faults_none, faults_as, faults_then, faults_on, faults_named, faults_checked, faults_judged, faults_sized, faults_boxed, faults_remainder, faults_raw_tests, faults_num_test, faults_spanned, whole-told}
use Rattle.text.specs.Utf8.{utf8}
use Rattle.padded.specs.Padded.{nul_padded}
use Rattle.wire.specs.Reader.{all_tests}
use Rattle.dates.specs.Date.{is_date}
use Rattle.prelude.specs.Prelude.{is_version}
use Rattle.layout.specs.Layout.{Layout, parts, from_layout, print_layout, LegalLayout}
use Rattle.layout.specs.LayoutOf.{D}
use Rattle.layout.specs.LayoutLaws.{parts-some, legal-parts, print-parts}
use Rattle.symbology_format.specs.Symbology.{Symbology, symbology, unspanned}
use Rattle.symbology_format.specs.SymbologyFaults.{SizedSymbology, symbology_fault}
use Rattle.symbology_format.proofs.SymbologyFaultLaws.{faults_symbology}
use Rattle.rules.specs.Rules.{rules_of}
use Rattle.metadata_lengths.specs.Lengths.{v1, v2, v4, lengths}
use Rattle.block_format.specs.Block.{Header, Block, is_schema, is_stype, is_stype_in, header, width_of, header-width, layout_box, layout_blind, layout_part, symbology_part, body, block, block_of}
use Rattle.metadata_lengths.specs.declared.MetadataLengths.{MetadataLengths}

-- ---- well sized

-- n bytes
abbrev pub Run : ℕ → List ℕ → Type 0
Run n x = (length x ≡ n) × Bytes x

pub record SizedHeader (v : MetadataLengths) (h : Header) : Type 0 where
  pub dataset : Run v.dataset_cstr_len h.dataset
  pub schema : h.schema < 256 ^ 2
  pub start : h.start < 256 ^ 8
  pub end : h.end < 256 ^ 8
  pub limit : h.limit < 256 ^ 8
  pub count : Run v.record_count_len h.count
  pub stype_in : h.stype_in < 256
  pub stype_out : h.stype_out < 256
  pub ts_out : h.ts_out < 256
  pub width : h.width < 256 ^ v.symbol_cstr_len_len
  pub reserved : Run v.reserved_len h.reserved

-- with a layout, it is legal; below version 4 there are bytes
abbrev pub LegalPart : Bool → Layout → Type 0
LegalPart true l = LegalLayout all_tests D l
LegalPart false l = Bytes l.rest

-- and these are its bytes
abbrev pub layout_bytes : Bool → Layout → List ℕ
layout_bytes true l = print_layout all_tests D l
layout_bytes false l = l.rest

-- so many that their count fits in four bytes
abbrev pub SizedLayout : Bool → Layout → Type 0
SizedLayout has l = LegalPart has l × (length (layout_bytes has l) < 256 ^ 4)

-- the symbology's bytes, with symbols of this width
abbrev pub symbology_bytes : ℕ → Symbology → List ℕ
symbology_bytes width t = (symbology utf8 nul_padded is_date width).codec.print t

-- nothing is asked of the symbology's length
pub record ShapedBlock (v : MetadataLengths) (b : Block) : Type 0 where
  pub header : SizedHeader v b.header
  pub layout : SizedLayout v.has_layout b.layout
  pub symbology : SizedSymbology (width_of v b.header) b.symbology

-- the same, and it fits in four bytes
abbrev pub SizedBlock : MetadataLengths → Block → Type 0
SizedBlock v b = ShapedBlock v b × (length (symbology_bytes (width_of v b.header) b.symbology) < 256 ^ 4)

-- ---- the faults

-- dataset 20, then 29; schema 21, stype_in 22, stype_out 23
unfoldable pub header_fault : Header → ℕ
header_fault h =
    first (first (unless (utf8 h.dataset) 20) (unless (nul_padded h.dataset) 29))
    (first (unless (is_schema h.schema) 21) (first (unless (is_stype_in h.stype_in) 22) (unless (is_stype h.stype_out) 23)))

-- the rules of a layout; below version 4: 25 where there are any bytes
abbrev pub layout_fault : Bool → List ℕ → ℕ → Layout → ℕ
layout_fault true sheet width l = rules_of sheet width (from_layout l).0
layout_fault false sheet width l = unless (is_nil l.rest) 25

-- header, layout, symbology
unfoldable pub block_fault : List ℕ → MetadataLengths → Block → ℕ
block_fault sheet v b =
    let width = width_of v b.header in
    first (header_fault b.header) (first (layout_fault v.has_layout sheet width b.layout) (symbology_fault utf8 nul_padded is_date width b.symbology))

-- a block given whole: 11, then 13 where it has more bytes than 2^32 - 1, then its own
unfoldable pub whole_fault : ℕ → List ℕ → Block → ℕ
whole_fault version sheet b =
    first (unless (is_version version) 11)
    (first (unless (leb (length ((block sheet (lengths version)).codec.print b)) 4294967295) 13) (block_fault sheet (lengths version) b))

-- ---- the law

faults_header : (v : MetadataLengths) → Faults (header v).codec (SizedHeader v) header_fault
unfolding header header_fault raw skip num
faults_header v =
    faults_as _ _
    (λ h z. (z.dataset, (z.schema, (z.start, (z.end, (z.limit, (z.count, (z.stype_in, (z.stype_out, (z.ts_out, (z.width, z.reserved)))))))))))
    (λ h. rw (first-end (unless (is_stype h.stype_out) 23)))
    (faults_named (faults_then (faults_raw_tests utf8 20 nul_padded 29 13 v.dataset_cstr_len (omega arith) (omega arith))
    (faults_then (faults_num_test is_schema 21 13 2 (omega arith))
    (faults_then (faults_none (law-num 13 8)) (faults_then (faults_none (law-num 13 8)) (faults_then (faults_none (law-num 13 8))
    (faults_then (faults_none (law-skip 13 v.record_count_len))
    (faults_then (faults_num_test is_stype_in 22 13 1 (omega arith)) (faults_then (faults_num_test is_stype 23 13 1 (omega arith))
    (faults_then (faults_none (law-num 13 1)) (faults_then (faults_none (law-num 13 v.symbol_cstr_len_len)) (faults_none (law-skip 13 v.reserved_len)))))))))))) _ _)

faults_layout : (has : Bool) (sheet : List ℕ) (width : ℕ) → Faults (layout_part has sheet width).codec (SizedLayout has) (layout_fault has sheet width)
unfolding layout_part sized raw
faults_layout true sheet width =
    faults_as _ _ (λ l z. let (lg, bs) = legal-parts all_tests D l z.0 in (lg, bs, rw zero-add (rw print-parts at z.1))) (λ l. refl)
    (faults_named (faults_judged (faults_boxed (faults_none (parts all_tests D).law) 24 26 44 4 0 1 (λ p. 0) (λ P x. Unit {0}) (λ x lg. omega (arith, parts-some all_tests D x lg)))
    (λ z. rules_of sheet width z.0) (unmoved _ layout_box.law (λ z. rules_of sheet width z.0) (layout_blind sheet width))) _ _)
faults_layout false sheet width =
    faults_as _ _ (λ l z. (z.1, (refl, z.0))) (λ l. refl)
    (faults_named (faults_checked (faults_sized 24 4 length (λ n. faults_none (law-raw 44 n))) is_nil 25 (omega arith) (λ p x. refl)) _ _)

faults_names : (has : Bool) (width : ℕ) → Faults (symbology_part has width).codec (λ t. SizedSymbology width t × (length (symbology_bytes width t) < 256 ^ 4)) (symbology_fault utf8 nul_padded is_date width)
unfolding symbology_part
faults_names true width = faults_spanned unspanned 27 45 4 (faults_symbology utf8 nul_padded is_date width)
faults_names false width = faults_as _ _ (λ t z. z.0) (λ t. refl) (faults_remainder (faults_symbology utf8 nul_padded is_date width))

pub faults_block : (sheet : List ℕ) (v : MetadataLengths) → Faults (block sheet v).codec (SizedBlock v) (block_fault sheet v)
unfolding block block_fault
faults_block sheet v =
    faults_as _ _ (λ b z. (z.0.header, (z.0.layout, (z.0.symbology, z.1)))) (λ b. refl)
    (faults_named (faults_on (faults_header v) (λ p h. ap (λ w. (body sheet v w).codec) (unmoved _ (header v).law (width_of v) (header-width v) p h))
    (λ h. faults_then (faults_layout v.has_layout sheet (width_of v h)) (faults_names v.has_layout (width_of v h)))) _ _)

-- ---- how many bytes

-- the lengths that differ from version to version
abbrev varied : MetadataLengths → ℕ
varied v = v.dataset_cstr_len + v.record_count_len + v.symbol_cstr_len_len + v.reserved_len

varied-sum : (version : ℕ) → varied (lengths version) ≡ 71
unfolding lengths
varied-sum version = go (eqb version 1) (eqb version 4)
  where
    go : (a c : Bool) → varied (cond a v1 (cond c v4 v2)) ≡ 71
    go true c = refl
    go false true = refl
    go false false = refl

-- in every version the header has 100 bytes
pub header-length : (version : ℕ) (h : Header) → SizedHeader (lengths version) h → length ((header (lengths version)).codec.print h) ≡ 100
unfolding header named ◌then◌ checked raw num skip
header-length version h z = simp (length-append, length-little) (omega (arith, varied-sum version, z.dataset.0, z.count.0, z.reserved.0))

layout-length : (has : Bool) (sheet : List ℕ) (width : ℕ) (l : Layout) → length ((layout_part has sheet width).codec.print l) ≡ 4 + length (layout_bytes has l)
unfolding layout_part named judged checked boxed sized raw
layout-length true sheet width l = omega (arith, ap length (print-parts all_tests D l))
layout-length false sheet width l = omega arith

names-length : (has : Bool) (width : ℕ) (t : Symbology) → length ((symbology_part has width).codec.print t) ≡ cond has 4 0 + length (symbology_bytes width t)
unfolding symbology_part full boxed remainder
names-length true width t = omega (arith, length-append (symbology_bytes width t) [])
names-length false width t = omega arith

-- the header's 100, 4 and the layout's, with a layout 4 more for the symbology's length, the symbology's
pub block-length : (version : ℕ) (sheet : List ℕ) (b : Block) → SizedHeader (lengths version) b.header → let v = lengths version in
    length ((block sheet v).codec.print b) ≡ 100 + (4 + length (layout_bytes v.has_layout b.layout)) + (cond v.has_layout 4 0 + length (symbology_bytes (width_of v b.header) b.symbology))
unfolding block named ◌on◌ ◌then◌
block-length version sheet b z =
    let v = lengths version in
    let w = width_of v b.header in
    simp length-append (omega (arith, header-length version b.header z, layout-length v.has_layout sheet w b.layout, names-length v.has_layout w b.symbology))

-- ---- a block given whole

-- the bytes of a well sized block are refused by its first fault, or read as that block, with its places
pub block-told : (version : ℕ) (sheet : List ℕ) (b : Block) → ShapedBlock (lengths version) b → let c = (block sheet (lengths version)).codec in
    Told (whole_fault version sheet b) (block_of version sheet (c.print b)) (ok (c.locate 0 b, []) (length (c.print b)))
unfolding block_of whole_fault
block-told version sheet b z =
    let v = lengths version in
    let c = (block sheet v).codec in
    let s : List ℕ = c.print b in
    let n = block-length version sheet b z.header in
    bind_told _ (unless (is_version version) 11) _ (need-told (is_version version) 11 3 (omega arith))
    (rw (le-leb 100 (length s) (omega arith))
    (when_told _ (unless (leb (length s) 4294967295) 13) (block_fault sheet v b) (need-told (leb (length s) 4294967295) 13 0 (omega arith))
    (λ e.
    let few = leb-true (length s) 4294967295 (unless-zero _ 13 (omega arith) e) in
    subst (λ u. Told (block_fault sheet v b) (whole c 0 u) (ok (c.locate 0 b, []) (length u))) (append-nil s)
    (whole-told (faults_block sheet v) 0 b [] (z, omega arith)))))
